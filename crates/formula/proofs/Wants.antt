-- Masks are one-hot: "may stand here" by one `and` is what the kinds and sorts say.
use Prim.Native.Nat.{ℕ, zero, suc}
use mathlib.Core.Path.{◌≡◌, refl, sym, ap, ◌∙◌}
use mathlib.Core.Bool.{Bool, true, false, not, ◌&&◌, ◌||◌}
use mathlib.Core.Option.{some}
use mathlib.Core.List.{List, [], ◌∷◌}
use lib.Dec.{eqb}
use lib.Bits.{bit_and}
use borrow.Author.Tests.{not-true}
use Rattle.formula.specs.Codes.{Code, codes, code_at}
use Rattle.formula.specs.Types.{prop, int, boo, set, nats, nats1, Ty, base, pair, Kind, one, pairs, kind_of, eq_kind, among?, Want, among, same, Rest, these, as_first}
use Rattle.formula.specs.NodeTable.{row_of, Arity, fixed, counted, sort_of_ty, sort_of_kinds, same_sort}
use Rattle.formula.specs.Mirror.PackedTable.{bit, mask, sort_mask}
use Rattle.formula.specs.declared.Sort.{Sort}
use Rattle.formula.specs.declared.Sort.TheVariants as sorts
use Rattle.formula.proofs.Choices.{never, and_left, and_right, agree, agree_is}
use Rattle.formula.proofs.Every.{every, every_code, kinds, every_kind, both_sorts, every_sort}

abbrev pub kind_in : Want → Kind → Bool
kind_in (among ks) κ = among? κ ks
kind_in (same τ) κ = eq_kind (kind_of τ) κ

-- the mask `want` stands for the want w, of operands of the sort σ
pub record Wants (want : ℕ) (w : Want) (σ : Sort) : Type 0 where
  pub by_kind : (κ : Kind) → eqb (bit_and want (bit κ)) 0 ≡ not (kind_in w κ)
  pub by_sort : (ρ : Sort) → eqb (bit_and want (sort_mask ρ)) 0 ≡ not (same_sort ρ σ)

unfoldable kind_fits : ℕ → Want → Kind → Bool
kind_fits m w κ = agree (eqb (bit_and m (bit κ)) 0) (not (kind_in w κ))

unfoldable sort_fits : ℕ → Sort → Sort → Bool
sort_fits m σ ρ = agree (eqb (bit_and m (sort_mask ρ)) 0) (not (same_sort ρ σ))

unfoldable want_fits : ℕ → Want → Sort → Bool
want_fits m w σ = every (kind_fits m w) kinds && every (sort_fits m σ) both_sorts

wants_by : (m : ℕ) (w : Want) (σ : Sort) → want_fits m w σ ≡ true → Wants m w σ
unfolding want_fits kind_fits sort_fits
wants_by m w σ e = record {
  by_kind = λ κ. agree_is (eqb (bit_and m (bit κ)) 0) (not (kind_in w κ)) (every_kind (kind_fits m w) (and_left (every (kind_fits m w) kinds) (every (sort_fits m σ) both_sorts) e) κ);
  by_sort = λ ρ. agree_is (eqb (bit_and m (sort_mask ρ)) 0) (not (same_sort ρ σ)) (every_sort (sort_fits m σ) (and_right (every (kind_fits m w) kinds) (every (sort_fits m σ) both_sorts) e) ρ);
}

-- ---- the operands of a row that has some
abbrev pub leaf? : Arity → Bool
leaf? (fixed zero) = true
leaf? (fixed (suc n)) = false
leaf? counted = false

unfoldable rest_fits : Rest → Bool
rest_fits (these ks) = not (eqb (mask ks) 0) && want_fits (mask ks) (among ks) (sort_of_kinds ks)
rest_fits as_first = true

all_first : every (λ k. leaf? (row_of k).arity || want_fits (mask (row_of k).first) (among (row_of k).first) (sort_of_kinds (row_of k).first)) codes ≡ true
unfolding every codes want_fits kind_fits sort_fits
all_first = refl

all_rest : every (λ k. leaf? (row_of k).arity || rest_fits (row_of k).rest) codes ≡ true
unfolding every codes rest_fits want_fits kind_fits sort_fits
all_rest = refl

or_else : (a b : Bool) → (a || b) ≡ true → a ≡ false → b ≡ true
or_else true b e f = never (sym f)
or_else false b e f = e

module _ (b : ℕ) (k : Code) (q : code_at b ≡ some k) (h : leaf? (row_of k).arity ≡ false) where
  pub first_wants : Wants (mask (row_of k).first) (among (row_of k).first) (sort_of_kinds (row_of k).first)
  first_wants = wants_by _ _ _ (or_else (leaf? (row_of k).arity) _ (every_code (λ k. leaf? (row_of k).arity || want_fits (mask (row_of k).first) (among (row_of k).first) (sort_of_kinds (row_of k).first)) all_first b k q) h)

  rest_fits_law : rest_fits (row_of k).rest ≡ true
  rest_fits_law = or_else (leaf? (row_of k).arity) (rest_fits (row_of k).rest) (every_code (λ k. leaf? (row_of k).arity || rest_fits (row_of k).rest) all_rest b k q) h

  module _ (ks : List Kind) (e : (row_of k).rest ≡ these ks) where
    these_fit : (not (eqb (mask ks) 0) && want_fits (mask ks) (among ks) (sort_of_kinds ks)) ≡ true
    unfolding rest_fits
    these_fit = sym (ap rest_fits e) ∙ rest_fits_law

    pub some_rest : eqb (mask ks) 0 ≡ false
    some_rest = not-true (eqb (mask ks) 0) (and_left (not (eqb (mask ks) 0)) (want_fits (mask ks) (among ks) (sort_of_kinds ks)) these_fit)

    pub rest_wants : Wants (mask ks) (among ks) (sort_of_kinds ks)
    rest_wants = wants_by _ _ _ (and_right (not (eqb (mask ks) 0)) (want_fits (mask ks) (among ks) (sort_of_kinds ks)) these_fit)

-- ---- the type of the first operand, for the second side of =
all_same : every (λ κ. every (λ j. agree (eqb (bit_and (bit κ) (bit j)) 0) (not (eq_kind κ j))) kinds) kinds ≡ true
unfolding every
all_same = refl

pub one_hot : (κ j : Kind) → eqb (bit_and (bit κ) (bit j)) 0 ≡ not (eq_kind κ j)
one_hot κ j = agree_is _ _ (every_kind (λ j. agree (eqb (bit_and (bit κ) (bit j)) 0) (not (eq_kind κ j))) (every_kind (λ κ. every (λ j. agree (eqb (bit_and (bit κ) (bit j)) 0) (not (eq_kind κ j))) kinds) all_same κ) j)

sort_of_kind : (τ : Ty) (ρ : Sort) → eqb (bit_and (bit (kind_of τ)) (sort_mask ρ)) 0 ≡ not (same_sort ρ (sort_of_ty τ))
sort_of_kind (base prop) sorts.Predicate = refl
sort_of_kind (base int) sorts.Predicate = refl
sort_of_kind (base boo) sorts.Predicate = refl
sort_of_kind (base set) sorts.Predicate = refl
sort_of_kind (base nats) sorts.Predicate = refl
sort_of_kind (base nats1) sorts.Predicate = refl
sort_of_kind (pair a b) sorts.Predicate = refl
sort_of_kind (base prop) sorts.Expression = refl
sort_of_kind (base int) sorts.Expression = refl
sort_of_kind (base boo) sorts.Expression = refl
sort_of_kind (base set) sorts.Expression = refl
sort_of_kind (base nats) sorts.Expression = refl
sort_of_kind (base nats1) sorts.Expression = refl
sort_of_kind (pair a b) sorts.Expression = refl

pub same_wants : (τ : Ty) → Wants (bit (kind_of τ)) (same τ) (sort_of_ty τ)
same_wants τ = record { by_kind = λ κ. one_hot (kind_of τ) κ; by_sort = sort_of_kind τ }

-- ---- a whole formula: any kind of its sort
abbrev pub root_kinds : Sort → List Kind
root_kinds sorts.Predicate = one prop ∷ []
root_kinds sorts.Expression = one int ∷ one boo ∷ one set ∷ one nats ∷ one nats1 ∷ pairs ∷ []

pub root_wants : (σ : Sort) → Wants (sort_mask σ) (among (root_kinds σ)) σ
unfolding every want_fits kind_fits sort_fits
root_wants sorts.Predicate = wants_by 1 (among (root_kinds sorts.Predicate)) sorts.Predicate refl
root_wants sorts.Expression = wants_by 126 (among (root_kinds sorts.Expression)) sorts.Expression refl
