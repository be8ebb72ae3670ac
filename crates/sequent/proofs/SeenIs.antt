-- What holds of what was read, if anything was: rules for what is read further, and one predicate.
use Prim.Native.Nat.{ℕ, suc, ◌+◌, ◌≤◌}
use mathlib.Core.Path.{◌≡◌, refl, sym, ap, ◌∙◌, subst}
use mathlib.Core.List.{List, [], ◌∷◌, ◌++◌}
use native.Mathlib.Omega.{arith}
use lib.ListN.{length, get_or, drop}
use lib.Dec.{ltb}
use borrow.Author.Tests.{ltb-false}
use mir.Syntax.{w8}
use mir.Val.{Fits}
use Rattle.std.specs.Prelude.{Result, Ok, Err}
use Rattle.refusal.specs.Refusal.{refused}
use Rattle.refusal.specs.declared.Refusal.{Refusal}
use Rattle.formula.specs.Tree.{Tree, encode}
use Rattle.formula.specs.Reading.{Parsed, got, not_got}
use Rattle.formula.specs.Formula.{tree_at, Formula, end_or_refusal, read_formula}
use Rattle.formula.specs.declared.Sort.TheVariants as sort
use Rattle.formula.proofs.Places.{AllBytes}
use Rattle.formula.proofs.Accepted.{reads_tree, tree_is}
use Rattle.formula.proofs.Back.{OfGot, unless}
use Rattle.sequent.specs.ReadFile.{predicate_at, to_end}

-- a slice of bytes, from each of them
pub all_bytes : (s : List ℕ) → ((i : ℕ) → Fits w8 (get_or s i 0)) → AllBytes s
all_bytes [] h = tt
all_bytes (b ∷ s) h = ((h 0).fits, all_bytes s (λ i. h (suc i)))

pub so_seen : {A : Type 0} (P Q : A → ℕ → Type 0) (z : Parsed A) → OfGot P z → ((a : A) (p : ℕ) → P a p → Q a p) → OfGot Q z
so_seen P Q (got a p) h k = k a p h
so_seen P Q (not_got w p) h k = tt

-- what is read to the end of its buffer
pub to_end_law : {A : Type 0} (b : List ℕ) (P Q : A → ℕ → Type 0) (z : Parsed A) → OfGot P z → ((a : A) (e : ℕ) → P a e → length b ≤ e → Q a e) → OfGot Q (to_end b z)
to_end_law b P Q (got a e) h k = unless Q (ltb e (length b)) _ _ (got a e) λ i. k a e h (ltb-false _ _ i)
to_end_law b P Q (not_got w p) h k = tt

-- it holds of what is seen
pub of_seen : {A : Type 0} (P : A → ℕ → Type 0) (z : Parsed A) → OfGot P z → (a : A) (p : ℕ) → z ≡ got a p → P a p
of_seen P z h a p e = subst (OfGot P) e h

-- ---- a predicate at a place
module _ (s types : List ℕ) (p : ℕ) where
  pub record PredicateStands (x : Tree) (q : ℕ) : Type 0 where
    pub is_formula : Formula types sort.Predicate x
    pub stands : drop p s ≡ encode x ++ drop q s
    pub ends : q ≡ p + length (encode x)
    pub inside : q ≤ length s

  pub reads_predicate : (x : Tree) (r : List ℕ) → Formula types sort.Predicate x → drop p s ≡ encode x ++ r → predicate_at s types p ≡ got x (p + length (encode x))
  unfolding predicate_at
  reads_predicate x r F e = reads_tree s types sort.Predicate p x r F e

  pub predicate_stood : AllBytes s → OfGot PredicateStands (predicate_at s types p)
  unfolding predicate_at
  predicate_stood B = go (tree_at s types sort.Predicate p) refl
    where
      go : (z : Parsed Tree) → tree_at s types sort.Predicate p ≡ z → OfGot PredicateStands z
      go (got x q) e =
          let I = tree_is s types sort.Predicate p B x q e in
          record { is_formula = I.0; stands = I.1; ends = I.2; inside = I.3 }
      go (not_got c q) e = tt

  -- what the formula reader says of it
  module _ (r : Result ℕ Refusal) (r≡ : r ≡ read_formula s types sort.Predicate p) where
    pub record PredicateRead (e : ℕ) : Type 0 where
      pub tree : Tree
      pub read_is : predicate_at s types p ≡ got tree e
      pub stood : PredicateStands tree e

    pub read_stood : AllBytes s → (e : ℕ) → r ≡ Ok e → PredicateRead e
    unfolding predicate_at read_formula
    read_stood B e q = go (tree_at s types sort.Predicate p) refl (predicate_stood B) (sym r≡ ∙ q)
      where
        go : (z : Parsed Tree) → tree_at s types sort.Predicate p ≡ z → OfGot PredicateStands z → end_or_refusal z ≡ Ok e → PredicateRead e
        go (got x m) f S i = let j : m ≡ e = cc in record { tree = x; read_is = f ∙ ap (got x) j; stood = subst (PredicateStands x) j S }
        go (not_got w m) f S i = absurd cc

    -- its range
    pub read_ends : AllBytes s → (e : ℕ) → r ≡ Ok e → (p ≤ e) × (e ≤ length s)
    read_ends B e q = let S = (read_stood B e q).stood in let k = S.ends in (omega arith, S.inside)

    pub read_refused : (x : Refusal) → r ≡ Err x → predicate_at s types p ≡ not_got x.cause x.at
    unfolding predicate_at read_formula
    read_refused x q = go (tree_at s types sort.Predicate p) refl (sym r≡ ∙ q)
      where
        go : (z : Parsed Tree) → tree_at s types sort.Predicate p ≡ z → end_or_refusal z ≡ Err x → tree_at s types sort.Predicate p ≡ not_got x.cause x.at
        go (got y m) f i = absurd cc
        go (not_got w m) f i = f ∙ ap (λ (y : Refusal). not_got y.cause y.at) (let y : refused w m ≡ x = cc in y)

pub ruleset reads = (all_bytes, read_ends)
