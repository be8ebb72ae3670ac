-- Data types; and sorts: a predicate has type prop, an expression another type.
use Prim.Native.Nat.{ℕ, zero, suc}
use mathlib.Core.Path.{◌≡◌, refl, ◌∙◌}
use mathlib.Core.List.{List, [], ◌∷◌}
use mathlib.Core.Bool.{Bool, true, false, ◌&&◌}
use mathlib.Core.Option.{Option, some, none}
use Rattle.formula.specs.Types.{Base, prop, int, boo, set, nats, nats1, Ty, base, pair, types_of, type_at}
use Rattle.formula.specs.NodeTable.{row_of, Result, is, of_identifier, of_pair, sort_of, sort_of_ty}
use Rattle.formula.specs.Tree.{Tree, node, size, number_of}
use Rattle.formula.specs.Formed.{Formed}
use Rattle.formula.specs.Typing.{pair_of, result_of, head_type, head_types}
use Rattle.formula.specs.declared.Sort.{Sort}
use Rattle.formula.proofs.FaultLaws.{sort_is}
use Rattle.formula.specs.declared.Sort.TheVariants as sort
use Rattle.formula.proofs.Shaped.{Shaped}
use Rattle.formula.proofs.Choices.{never, and_left, and_right}

-- ---- data: neither a predicate nor ℕ nor ℕ1, nor a pair with one inside
abbrev pub dataBase? : Base → Bool
dataBase? prop = false
dataBase? int = true
dataBase? boo = true
dataBase? set = true
dataBase? nats = false
dataBase? nats1 = false

abbrev pub data? : Ty → Bool
data? (base b) = dataBase? b
data? (pair a b) = data? a && data? b

-- a type whose halves, if it is a pair, are data
abbrev pub good : Ty → Bool
good (base b) = true
good (pair a b) = data? a && data? b

abbrev pub all_data : List Ty → Bool
all_data [] = true
all_data (τ ∷ Γ) = data? τ && all_data Γ

pub types_of_data : (bs : List ℕ) → all_data (types_of bs) ≡ true
types_of_data [] = refl
types_of_data (zero ∷ bs) = types_of_data bs
types_of_data (suc zero ∷ bs) = types_of_data bs
types_of_data (suc (suc b) ∷ bs) = types_of_data bs

pub data_good : (τ : Ty) → data? τ ≡ true → good τ ≡ true
data_good (base b) h = refl
data_good (pair a b) h = h

pub type_at_data : (Γ : List Ty) (k : ℕ) (τ : Ty) → all_data Γ ≡ true → type_at Γ k ≡ some τ → data? τ ≡ true
type_at_data [] k τ h e = cc
type_at_data (σ ∷ Γ) zero τ h e = cc (and_left (data? σ) (all_data Γ) h)
type_at_data (σ ∷ Γ) (suc k) τ h e = type_at_data Γ k τ (and_right (data? σ) (all_data Γ) h) e

-- ---- sorts
data_expression : (τ : Ty) → data? τ ≡ true → sort_of_ty τ ≡ sort.Expression
data_expression (base prop) h = never h
data_expression (base int) h = refl
data_expression (base boo) h = refl
data_expression (base set) h = refl
data_expression (base nats) h = refl
data_expression (base nats1) h = refl
data_expression (pair a b) h = refl

pair_expression : (os : List (Option Ty)) (τ : Ty) → pair_of os ≡ some τ → sort_of_ty τ ≡ sort.Expression
pair_expression [] τ e = cc
pair_expression (none ∷ os) τ e = cc
pair_expression (some a ∷ []) τ e = cc
pair_expression (some a ∷ none ∷ os) τ e = cc
pair_expression (some a ∷ some b ∷ []) τ e = cc
pair_expression (some a ∷ some b ∷ o ∷ os) τ e = cc

sort_result : (ρ : Result) (Γ : List Ty) (m : ℕ) (os : List (Option Ty)) (τ : Ty) → all_data Γ ≡ true → result_of ρ Γ m os ≡ some τ → sort_of_ty τ ≡ sort_of ρ
sort_result (is σ) Γ m os τ h e = cc
sort_result of_identifier Γ m os τ h e = data_expression τ (type_at_data Γ m τ h e)
sort_result of_pair Γ m os τ h e = pair_expression os τ e

pub sort_shaped : (x : Tree) (l t d : ℕ) (σ : Sort) (Γ : List Ty) (τ : Ty) → all_data Γ ≡ true → Shaped l t d σ x → head_type Γ x ≡ some τ → sort_of_ty τ ≡ σ
unfolding Shaped head_type
sort_shaped (node k xs) l t d σ Γ τ h g e = sort_result (row_of k).result Γ (number_of k (size xs)) (head_types Γ xs) τ h e ∙ sort_is t d σ k (size xs) g.1.faultless

pub sort_type : (x : Tree) (l t d : ℕ) (σ : Sort) (Γ : List Ty) (τ : Ty) → all_data Γ ≡ true → Formed l t d σ x → head_type Γ x ≡ some τ → sort_of_ty τ ≡ σ
unfolding Formed head_type
sort_type (node k xs) l t d σ Γ τ h g e = sort_result (row_of k).result Γ (number_of k (size xs)) (head_types Γ xs) τ h e ∙ sort_is t d σ k (size xs) g.1.faultless
