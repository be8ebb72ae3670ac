-- The goals of the loop that need one lemma of WalkLaws each; the check finds the others.
use mathlib.Core.Path.{sym, ◌∙◌}
use Rattle.reader.proofs.WalkLaws.{less_next, less_last, way_name, way_leaf, way_last, way_on}
use Rattle.reader.proofs.reader.Reader.+read_below_read_ops.Goals as goal

pub read_ops-loop-w-smaller-in-Some : goal.read_ops-loop-w-smaller-in-Some
read_ops-loop-w-smaller-in-Some t c = less_next _ _ _ _ _ c.next-w.ensures c.loop-w-test.true

pub read_ops-loop-w-preserved-in-Some : goal.read_ops-loop-w-preserved-in-Some
read_ops-loop-w-preserved-in-Some t c = way_name _ _ _ _ _ c.loop-w.invariant c.loop-w-test.true _ _ (sym c.name_at.ensures ∙ c.in-Some.is) c.next-w.ensures

pub read_ops-loop-w-smaller-then-v-eq0 : goal.read_ops-loop-w-smaller-then-v-eq0
read_ops-loop-w-smaller-then-v-eq0 t c = less_next _ _ _ _ _ c.next-w-then-v-eq0.ensures c.loop-w-test.true

pub read_ops-loop-w-preserved-then-v-eq0 : goal.read_ops-loop-w-preserved-then-v-eq0
read_ops-loop-w-preserved-then-v-eq0 t c = way_leaf _ _ _ _ _ c.loop-w.invariant _ _ c.below-v.ensures _ c.if-v-eq0.true c.next-w-then-v-eq0.ensures

pub read_ops-loop-w-smaller-then-w-eq1 : goal.read_ops-loop-w-smaller-then-w-eq1
read_ops-loop-w-smaller-then-w-eq1 t c = less_last _ _ _ _ _ _ c.below-v.ensures _ _ c.keeping-w.ensures

pub read_ops-loop-w-preserved-then-w-eq1 : goal.read_ops-loop-w-preserved-then-w-eq1
read_ops-loop-w-preserved-then-w-eq1 t c = way_last _ _ _ _ _ c.loop-w.invariant _ _ c.below-v.ensures c.if-v-eq0-2.false _ c.keeping-w.ensures c.if-w-eq1.true

pub read_ops-loop-w-smaller : goal.read_ops-loop-w-smaller
read_ops-loop-w-smaller t c = less_next _ _ _ _ _ c.next-w-in-loop-w.ensures c.loop-w-test.true

pub read_ops-loop-w-preserved : goal.read_ops-loop-w-preserved
read_ops-loop-w-preserved t c = way_on _ _ _ _ _ c.loop-w.invariant _ _ c.below-v.ensures _ c.read_below.ensures _ _ c.in_ok-g.was c.next-w-in-loop-w.ensures
