-- The halves of a pair in an accepted formula are data: ↦ takes nothing else, and pairs come only from ↦.
use Prim.Native.Nat.{ℕ}
use mathlib.Core.Path.{◌≡◌, refl, ap₂}
use mathlib.Core.List.{List, [], ◌∷◌, map}
use mathlib.Core.Bool.{Bool, true, false, ◌&&◌}
use mathlib.Core.Option.{Option, some}
use mathlib.Core.Logic.{⊎_elim}
use Rattle.formula.specs.Codes.{Code, codes}
use Rattle.formula.specs.Types.{Base-discrete, Ty, base, pair, Kind, one, pairs, Kind-discrete, kind_of, eq_kind, among?, Want, among, Rest, these, as_first, may, want_next, may_all}
use Rattle.formula.specs.NodeTable.{row_of, Result, is, of_identifier, of_pair}
use Rattle.formula.specs.Tree.{Tree, node, Trees, nil, ◌▹◌, size, number_of}
use Rattle.formula.specs.Formed.{inner}
use Rattle.formula.specs.Typing.{pair_of, result_of, right, well_made, type_of, types_in}
use Rattle.formula.proofs.Choices.{never, and_left, and_right, and_both, or_cases, pick_some}
use Rattle.formula.proofs.Every.{every}
use Rattle.formula.proofs.Coded.{every_row}
use Rattle.formula.proofs.Typed.{may_some}
use Rattle.formula.proofs.DataType.{dataBase?, data?, good, all_data, data_good, type_at_data}

-- ---- where data must stand
abbrev dataKind? : Kind → Bool
dataKind? (one b) = dataBase? b
dataKind? pairs = true

abbrev dataKinds? : List Kind → Bool
dataKinds? [] = true
dataKinds? (k ∷ ks) = dataKind? k && dataKinds? ks

abbrev dataRest? : Rest → Bool
dataRest? (these ks) = dataKinds? ks
dataRest? as_first = false

same_kind : (a b : Kind) → eq_kind a b ≡ true → a ≡ b
same_kind a b e = go (Kind-discrete Base-discrete a b) e
  where
    go : (d : Dec (a ≡ b)) → elim d [ yes p ↦ true | no q ↦ false ] ≡ true → a ≡ b
    go (yes p) e = p
    go (no q) e = never e

among_data : (k : Kind) (ks : List Kind) → dataKinds? ks ≡ true → among? k ks ≡ true → dataKind? k ≡ true
among_data k [] h e = never e
among_data k (j ∷ js) h e = ⊎_elim
    (λ q. rw (same_kind k j q) (and_left (dataKind? j) (dataKinds? js) h))
    (λ q. among_data k js (and_right (dataKind? j) (dataKinds? js) h) q)
    (or_cases (eq_kind k j) (among? k js) e)

kind_data : (τ : Ty) → good τ ≡ true → dataKind? (kind_of τ) ≡ true → data? τ ≡ true
kind_data (base b) g h = h
kind_data (pair a b) g h = g

may_data : (ks : List Kind) (τ : Ty) → dataKinds? ks ≡ true → good τ ≡ true → may (among ks) (some τ) ≡ true → data? τ ≡ true
may_data ks τ h g e = kind_data τ g (among_data (kind_of τ) ks h e)

next_data : (r : Rest) (o : Option Ty) (τ : Ty) → dataRest? r ≡ true → good τ ≡ true → may (want_next r o) (some τ) ≡ true → data? τ ≡ true
next_data (these ks) o τ h g e = may_data ks τ h g e
next_data as_first o τ h g e = never h

-- ---- a row says a type with data in its halves, if it takes such operands
abbrev pub goods : List Ty → Bool
goods [] = true
goods (τ ∷ τs) = good τ && goods τs

abbrev halves? : Result → List Kind → Rest → Bool
halves? (is τ) ks r = good τ
halves? of_identifier ks r = true
halves? of_pair ks r = dataKinds? ks && dataRest? r

row_halves : (k : Code) → halves? (row_of k).result (row_of k).first (row_of k).rest ≡ true
unfolding every codes
row_halves k = every_row (λ r. halves? r.result r.first r.rest) refl k

module _ (ks : List Kind) (r : Rest) (τ : Ty) where
  pair_good : (τs : List Ty) → (dataKinds? ks && dataRest? r) ≡ true → goods τs ≡ true → may_all (among ks) r (map some τs) ≡ true → pair_of (map some τs) ≡ some τ → good τ ≡ true
  pair_good [] h g m e = cc
  pair_good (a ∷ []) h g m e = cc
  pair_good (a ∷ b ∷ []) h g m e =
      let n = and_right (may (among ks) (some a)) _ m in
      let p = may_data ks a (and_left (dataKinds? ks) (dataRest? r) h) (and_left (good a) _ g) (and_left _ _ m) in
      let q = next_data r (some a) b (and_right (dataKinds? ks) _ h) (and_left (good b) true (and_right (good a) _ g)) (and_left _ _ n) in
      cc (and_both (data? a) (data? b) p q)
  pair_good (a ∷ b ∷ c ∷ τs) h g m e = cc

  result_good : (ρ : Result) (Γ : List Ty) (n : ℕ) (os : List (Option Ty)) (τs : List Ty) → halves? ρ ks r ≡ true → all_data Γ ≡ true → os ≡ map some τs → goods τs ≡ true
      → may_all (among ks) r os ≡ true → result_of ρ Γ n os ≡ some τ → good τ ≡ true
  result_good (is σ) Γ n os τs h t q g m e = cc
  result_good of_identifier Γ n os τs h t q g m e = data_good τ (type_at_data Γ n τ t e)
  result_good of_pair Γ n os τs h t q g m e = pair_good τs h g (rw q at m) (rw q at e)

mutual
  unfolding type_of

  -- the type of a formula over data has data in its halves
  pub typed_good : (x : Tree) (Γ : List Ty) (d : ℕ) (τ : Ty) → all_data Γ ≡ true → type_of Γ d x ≡ some τ → good τ ≡ true
  typed_good (node k xs) Γ d τ t e =
      let n = size xs in
      let os = types_in Γ (inner d k n) xs in
      let w = pick_some (well_made Γ d k n && right k os) (result_of (row_of k).result Γ (number_of k n) os) τ e in
      let m = and_right (well_made Γ d k n) (right k os) w.0 in
      let g = typed_goods xs Γ (inner d k n) (among (row_of k).first) (row_of k).rest t m in
      result_good (row_of k).first (row_of k).rest τ (row_of k).result Γ (number_of k n) os g.0 (row_halves k) t g.1 g.2 m w.1

  pub typed_goods : (xs : Trees) (Γ : List Ty) (d : ℕ) (w : Want) (r : Rest) → all_data Γ ≡ true → may_all w r (types_in Γ d xs) ≡ true
      → (τs : List Ty) × (types_in Γ d xs ≡ map some τs) × (goods τs ≡ true)
  typed_goods nil Γ d w r t e = ([], refl, refl)
  typed_goods (x ▹ xs) Γ d w r t e =
      let o = type_of Γ d x in
      let s = may_some w o (and_left (may w o) (may_all (want_next r o) r (types_in Γ d xs)) e) in
      let g = typed_goods xs Γ d (want_next r o) r t (and_right (may w o) _ e) in
      (s.0 ∷ g.0, ap₂ ◌∷◌ s.1 g.1, and_both _ _ (typed_good x Γ d s.0 t s.1) g.2)
