-- Buffers read one after the other: the first refusal is the answer.
use Prim.Native.Nat.{ℕ}
use mathlib.Core.Path.{◌≡◌, refl, sym, ap, ◌∙◌}
use mathlib.Core.List.{List}
use lib.ListN.{take, drop}
use Rattle.std.proofs.lemmas.Result.{err_from_is_err_and}
use Rattle.std.specs.Prelude.{Result, Err}
use Rattle.std.specs.Result.{IsErrAnd}
use Rattle.refusal.specs.declared.Said.{Said}
use Rattle.formula.specs.Reading.{Parsed, got}
use Rattle.formula.specs.Tree.{Tree}
use Rattle.desk.specs.Sequent.{Sequent}
use Rattle.desk.specs.declared.list.List.{List as Formulas}
use Rattle.sequent.specs.ReadFile.{read_sequent}
use Rattle.sequent.specs.Mirror.Opened.{Not}
use Rattle.sequent.specs.Mirror.ReadBytes.{Opens}
use Rattle.sequent.specs.declared.Opened.{Opened}
use Rattle.buffers.specs.Lent.{lent_list}
use Rattle.buffers.specs.Outcome.{Outcome, refuses, on_buffer}
use Rattle.buffers.specs.Mirror.Buffers.{Lists}
use Rattle.buffers.specs.declared.Done.{Done}
use Rattle.acts.specs.Outcomes.{over_lists}
use Rattle.acts.specs.Mirror.Answering.{Answers, OpenIs}
use Rattle.acts.proofs.Ranges.{types_there}

pub refused_answers : (o : Outcome) (z : Said) (out : List ℕ) → o ≡ refuses z → Answers o out out (Err z)
refused_answers o z out e = rw e (record { says = refl; leaves = refl })

-- .. by the refusal that a `?` returns
pub exit_answers : (o : Outcome) (z : Said) (out : List ℕ) (r : Result Done Said) → IsErrAnd r (λ y. y ≡ z) → o ≡ refuses z → Answers o out out r
exit_answers o z out r e h = let p = err_from_is_err_and r e in rw (p.1, p.2) (refused_answers o z out h)

-- a buffer that is not read refuses the act, whatever was to be done with it
pub not_read : {A : Type 0} (b : List ℕ) (r : Parsed A) (z : Said) → Not b r z → (K : A → Outcome) → on_buffer b r K ≡ refuses z
not_read b r z N K = rw N.refused_is (ap refuses (sym N.said_is))

-- a sequent that is opened is the one that is read
module _ (s : List ℕ) (o : Opened) (P : Opens s o) where
  abbrev pub opened : OpenIs o
  opened = rw P.bytes_are P.is_open

  pub opened_is : (K : Sequent → Outcome) → on_buffer s (read_sequent s) K ≡ K opened.sequent
  opened_is K =
      let e : read_sequent s ≡ got opened.sequent opened.at_end = ap read_sequent (sym P.bytes_are) ∙ opened.read_is in
      rw e refl

-- ---- an act on three lists, read one after the other: the first refusal ends it
module _ (s : List ℕ) (most : ℕ) (a b c : List ℕ) (K : Sequent → List Tree → List Tree → List Tree → Outcome) (out : List ℕ) (r : Result Done Said) where
  abbrev Ends : Said → Type 0
  Ends z = IsErrAnd r (λ y. y ≡ z) → Answers (over_lists s most a b c K) out out r

  pub sequent_ends : (z : Said) → Not s (read_sequent s) z → Ends z
  sequent_ends z N e = exit_answers _ z out r e (not_read s (read_sequent s) z N _)

  module _ (o : Opened) (P : Opens s o) (types : List ℕ) (t : types ≡ take o.view.identifiers (drop 8 o.bytes.now)) where
    abbrev pub q : Sequent
    q = (opened s o P).sequent

    same_types : types ≡ q.types
    same_types = types_there o (opened s o P) types t

    pub first_ends : (z : Said) → Not a (lent_list types 64 a) z → Ends z
    first_ends z N e = exit_answers _ z out r e (opened_is s o P _ ∙ rw (← same_types) (not_read a (lent_list types 64 a) z N _))

    module _ (l : Formulas) (A : Lists types 64 a l) where
      pub second_ends : (z : Said) → Not b (lent_list types 64 b) z → Ends z
      second_ends z N e = exit_answers _ z out r e (opened_is s o P _ ∙ rw (← same_types, A.read_is) (not_read b (lent_list types 64 b) z N _))

      module _ (m : Formulas) (B : Lists types 64 b m) where
        pub third_ends : (z : Said) → Not c (lent_list types most c) z → Ends z
        third_ends z N e = exit_answers _ z out r e (opened_is s o P _ ∙ rw (← same_types, A.read_is, B.read_is) (not_read c (lent_list types most c) z N _))

        -- with all of them read, the act is what is done with them
        pub all_read : (n : Formulas) → (C : Lists types most c n) → (out' : List ℕ) → Answers (K q A.formulas B.formulas C.formulas) out out' r → Answers (over_lists s most a b c K) out out' r
        all_read n C out' R =
            let e : over_lists s most a b c K ≡ K q A.formulas B.formulas C.formulas = opened_is s o P _ ∙ rw (← same_types, A.read_is, B.read_is, C.read_is) refl in
            rw e R
