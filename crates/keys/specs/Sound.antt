-- What the theorems say: the keys of an accepted source are typed predicates, and where the source has its start value each key has its entry's value.
use Rattle.std.specs.Prelude.{ℕ, ◌≡◌, List, [], ◌∷◌}
use Rattle.std.proofs.Math.Option.{some}
use Rattle.formula.specs.Types.{Ty, base, prop}
use Rattle.formula.specs.Typing.{type_of}
use Rattle.meaning.specs.Value.{truth}
use Rattle.meaning.specs.Valuation.{Valuation}
use Rattle.meaning.specs.Meaning.{eval}
use Rattle.keys.specs.Substitutes.{Entry}

abbrev pub Each : (Entry → Type 0) → List Entry → Type 0
Each P [] = Unit {0}
Each P (e ∷ es) = P e × Each P es

abbrev pub AllTyped : List Ty → List Entry → Type 0
AllTyped Γ = Each (λ e. type_of Γ 0 e.key ≡ some (base prop))

abbrev pub AllHold : {types : List ℕ} → Valuation types → List Entry → Type 0
AllHold ν = Each (λ e. eval ν e.key [] ≡ some (truth e.value))
