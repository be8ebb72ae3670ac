-- Acts lose nothing, and give accepted sequents.
use Prim.Native.Nat.{ℕ, ◌≤◌}
use mathlib.Core.Path.{◌≡◌, refl}
use mathlib.Core.Bool.{Bool, true, false}
use mathlib.Core.List.{List, [], ◌∷◌}
use lib.ListN.{length}
use lib.Dec.{ltb}
use borrow.Author.Tests.{ltb-false}
use Rattle.formula.specs.Pick.{pick}
use Rattle.formula.specs.Tree.{Tree}
use Rattle.formula.specs.Formula.{Formula}
use Rattle.formula.specs.declared.Sort.TheVariants as sort
use Rattle.desk.specs.Sequent.{Flag, Sequent}
use Rattle.desk.specs.File.{encode_sequent}
use Rattle.sequent.specs.Accepted.{AcceptedSequent}
use Rattle.desk.specs.Hypotheses.{hide, all_present, infer, change_all}
use Rattle.acts.specs.Acts.{acted, flag_act, new_goal, modify, forward, rewrite}
use Rattle.buffers.specs.Outcome.{no_room}
use Rattle.desk.proofs.Apart.{or_false}
use Rattle.desk.proofs.Formulas.{Each, each_append, formulas_of}
use Rattle.sequent.proofs.Predicates.{each_formula, all_predicates}
use Rattle.desk.proofs.Grown.{Grown, flags_grown, then_grown}
use Rattle.desk.proofs.StepsGrow.{adds_grown, inferred_grown, changes_grown}

-- ---- THE ACTS: nothing is lost; the types stay, and the goal becomes g
pub record Kept (P : Tree → Type 0) (g : Tree) (q r : Sequent) : Type 0 where
  pub types_are : r.types ≡ q.types
  pub grown : Grown P q.hypotheses r.hypotheses
  pub goal_is : r.goal ≡ g

module _ (P : Tree → Type 0) (q : Sequent) where
  pub flag_kept : (f : Flag → Flag) (x : Tree) → Kept P q.goal q (flag_act f x q).sequent
  unfolding flag_act acted
  flag_kept f x = record { types_are = refl; grown = changes_grown P f (x ∷ []) q.hypotheses; goal_is = refl }

  pub modify_kept : (added unselected goal : List Tree) → Each P added → Kept P (new_goal goal q.goal) q (modify added unselected goal q).sequent
  unfolding modify acted
  modify_kept added unselected goal E = record { types_are = refl; grown = adds_grown P unselected added q.hypotheses E; goal_is = refl }

  -- nothing changes if a source is absent
  unless_absent : (b : Bool) (changed : Bool) (r : Sequent) → Kept P q.goal q r → Kept P q.goal q (pick b (acted changed q r) (acted false q q)).sequent
  unfolding acted
  unless_absent true changed r K = K
  unless_absent false changed r K = record { types_are = refl; grown = flags_grown P q.hypotheses q.hypotheses refl; goal_is = refl }

  pub rewrite_kept : (sources inferred to_hide : List Tree) → Each P inferred → Kept P q.goal q (rewrite sources inferred to_hide q).sequent
  unfolding rewrite
  rewrite_kept sources inferred to_hide E =
      let hs = q.hypotheses in
      let ks = infer hs sources inferred in
      unless_absent (all_present hs sources) _ _
      (record { types_are = refl; grown = then_grown P hs ks (change_all hide to_hide ks) (inferred_grown P hs sources inferred E) (changes_grown P hide to_hide ks); goal_is = refl })

  pub forward_kept : (sources inferred : List Tree) → Each P inferred → Kept P q.goal q (forward sources inferred q).sequent
  unfolding forward
  forward_kept sources inferred = rewrite_kept sources inferred []

-- ---- ACCEPTED sequents, where there is room
pub room_left : (room : ℕ) (r : Sequent) → no_room room r ≡ false → (length r.hypotheses ≤ 64) × (length (encode_sequent r) ≤ 60000) × (length (encode_sequent r) ≤ room)
unfolding no_room
room_left room r e =
    let i = or_false (ltb 64 (length r.hypotheses)) _ e in
    let j = or_false (ltb 60000 (length (encode_sequent r))) _ i.1 in
    (ltb-false _ _ i.0, ltb-false _ _ j.0, ltb-false _ _ j.1)

module _ (q : Sequent) (A : AcceptedSequent q) (room : ℕ) where
  abbrev OfLent : Tree → Type 0
  OfLent = Formula q.types sort.Predicate

  kept_accepted : (g : Tree) (r : Sequent) → Kept OfLent g q r → OfLent g → no_room room r ≡ false → AcceptedSequent r
  kept_accepted g r K F e =
      let i = room_left room r e in
      let G = K.grown in
      let E = rw (← G.formulas_are) at (each_append OfLent (formulas_of q.hypotheses) G.further (each_formula q.types q.hypotheses A.predicates) G.allowed) in
      record {
        few_types = rw K.types_are A.few_types;
        type_bytes = rw K.types_are A.type_bytes;
        few = i.0;
        predicates = rw K.types_are (all_predicates q.types r.hypotheses E);
        different = G.apart A.different;
        goal_is = rw (K.types_are, K.goal_is) F;
        short = i.1;
      }

  pub flag_accepted : (f : Flag → Flag) (x : Tree) → no_room room (flag_act f x q).sequent ≡ false → AcceptedSequent (flag_act f x q).sequent
  flag_accepted f x = kept_accepted q.goal _ (flag_kept OfLent q f x) A.goal_is

  pub modify_accepted : (added unselected goal : List Tree) → Each (Formula q.types sort.Predicate) added → Each (Formula q.types sort.Predicate) goal
      → no_room room (modify added unselected goal q).sequent ≡ false → AcceptedSequent (modify added unselected goal q).sequent
  modify_accepted added unselected goal E F = kept_accepted (new_goal goal q.goal) _ (modify_kept OfLent q added unselected goal E) (new_goal_law goal F)
    where
      new_goal_law : (xs : List Tree) → Each OfLent xs → OfLent (new_goal xs q.goal)
      new_goal_law [] F = A.goal_is
      new_goal_law (x ∷ xs) F = F.0

  pub forward_accepted : (sources inferred : List Tree) → Each (Formula q.types sort.Predicate) inferred
      → no_room room (forward sources inferred q).sequent ≡ false → AcceptedSequent (forward sources inferred q).sequent
  forward_accepted sources inferred E = kept_accepted q.goal _ (forward_kept OfLent q sources inferred E) A.goal_is

  pub rewrite_accepted : (sources inferred to_hide : List Tree) → Each (Formula q.types sort.Predicate) inferred
      → no_room room (rewrite sources inferred to_hide q).sequent ≡ false → AcceptedSequent (rewrite sources inferred to_hide q).sequent
  rewrite_accepted sources inferred to_hide E = kept_accepted q.goal _ (rewrite_kept OfLent q sources inferred to_hide E) A.goal_is
