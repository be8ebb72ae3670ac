use Rattle.std.proofs.Common.{◌≡◌, ℕ, suc, ◌+◌, ◌-◌, ◌<◌, ◌≤◌, List, get_or, set, sym, ap, ◌∙◌, arith}
use Rattle.std.proofs.Math.Seq.{set_out}
use Rattle.desk.specs.Mirror.Masks.{flag_byte_of}
use Rattle.desk.specs.declared.view.View.{View}
use Rattle.buffers.specs.Mirror.WriteBytes.{with_flags}
use Rattle.buffers.proofs.write.put_flags.Goals as goal
use Rattle.buffers.proofs.write.put_flags.Goals.{then-place-out, else-place-out}

module _ (l : List ℕ) (v : View) (h i : ℕ) (o z : List ℕ) (g : with_flags (h - i) l v i o ≡ z) where
  flags_done : h ≤ i → o ≡ z
  unfolding with_flags
  flags_done q = let k : h - i ≡ 0 = omega arith in rw k at g

  flags_go : i < h → (o' : List ℕ) → o' ≡ set o (get_or l i 0) (flag_byte_of v i) → with_flags (h - (i + 1)) l v (i + 1) o' ≡ z
  unfolding with_flags
  flags_go p o' e = let k : h - i ≡ suc (h - (i + 1)) = omega arith in rw e (rw k at g)

pub loop-i-preserved : goal.loop-i-preserved
loop-i-preserved c = flags_go _ _ _ _ _ _ c.loop-i.invariant (omega arith) _
    (elim c.if-place-out.branch [ then-place-out w ↦ w.out-is ∙ ap (set c.loop-i.out _) w.flag_byte.ensures | else-place-out w ↦ w.out-is ∙ sym (set_out c.loop-i.out _ _ w.if-place-out.false) ])

pub returns : goal.returns
returns c = flags_done _ _ _ _ _ _ c.loop-i.invariant (omega arith)
