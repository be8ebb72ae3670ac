-- Document 01: "Sequents with ordered hypotheses and flags".
use Rattle.std.specs.Prelude.{ℕ, ◌+◌, ◌≡◌, List, [], ◌∷◌, Bool, true, false, not, ◌||◌}
use Rattle.std.proofs.Math.Option.{Option, some, none}
use Rattle.formula.specs.Pick.{pick}
use Rattle.formula.specs.Tree.{Tree}
unfoldable pub use Rattle.formula.specs.Equal.{same_bytes, same}

-- "0 plain, 1 hidden, 2 selected"
pub data Flag : Type 0 where
  plain hidden selected : Flag

pub record Hypothesis : Type 0 where
  pub flag : Flag
  pub formula : Tree

-- the types of the identifiers are kept as their bytes 0, 1, 2
pub record Sequent : Type 0 where
  pub types : List ℕ
  pub hypotheses : List Hypothesis
  pub goal : Tree

-- how they are made
abbrev pub hypothesis : Flag → Tree → Hypothesis
hypothesis f x = record { flag = f; formula = x }

abbrev pub flagged : Flag → Hypothesis → Hypothesis
flagged f h = hypothesis f h.formula

abbrev pub sequent_of : List ℕ → List Hypothesis → Tree → Sequent
sequent_of types hs goal = record { types = types; hypotheses = hs; goal = goal }

abbrev pub with_hypotheses : Sequent → List Hypothesis → Sequent
with_hypotheses q hs = sequent_of q.types hs q.goal

abbrev pub is_hidden : Flag → Bool
is_hidden plain = false
is_hidden hidden = true
is_hidden selected = false

abbrev pub is_selected : Flag → Bool
is_selected plain = false
is_selected hidden = false
is_selected selected = true

abbrev pub is_visible : Flag → Bool
is_visible f = not (is_hidden f)

-- how many hypotheses have such a flag
unfoldable pub count_of : (Flag → Bool) → List Hypothesis → ℕ
count_of f [] = 0
count_of f (h ∷ hs) = pick (f h.flag) 1 0 + count_of f hs

-- ---- formulas are compared by their bytes
unfoldable pub among : Tree → List Tree → Bool
among x [] = false
among x (y ∷ ys) = same y x || among x ys

-- the flag of a formula, if it is a hypothesis
unfoldable pub flag_in : List Hypothesis → Tree → Option Flag
flag_in [] x = none
flag_in (h ∷ hs) x = pick (same h.formula x) (some h.flag) (flag_in hs x)

abbrev pub holds : (Flag → Bool) → Option Flag → Bool
holds f none = false
holds f (some g) = f g

unfoldable pub present : List Hypothesis → Tree → Bool
present hs x = holds (λ f. true) (flag_in hs x)

-- none is equal to a later one
abbrev pub Different : List Hypothesis → Type 0
Different [] = Unit {0}
Different (h ∷ hs) = (present hs h.formula ≡ false) × Different hs
