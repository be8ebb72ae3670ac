-- What forward inference does on the desk.
use Rattle.std.specs.Prelude.{ℕ, ◌≤◌, ◌≡◌, List, [], ◌∷◌, Bool, true, false, not, ◌&&◌, ◌||◌, length, Option, Result, Ok, Err}
use Rattle.formula.specs.Tree.{Tree, encode}
use Rattle.desk.specs.Sequent.{Hypothesis, is_hidden, is_selected, is_visible, flag_in, holds, present}
use Rattle.desk.specs.Hypotheses.{infer_one, infer_all, reselects}
use Rattle.desk.specs.Mirror.Bytes.{Stand, OnDesk}
use Rattle.desk.specs.Mirror.Desk.{Holds, index_of, position}
use Rattle.desk.specs.Mirror.Moves.{ListIs, TooMuch, Extends}
use Rattle.desk.specs.declared.Desk.{Desk}
use Rattle.desk.specs.declared.NoRoom.{NoRoom}
use Rattle.desk.specs.declared.hypotheses.Hypotheses.{Hypotheses}
use Rattle.desk.specs.declared.list.List.{List as Formulas}
use Rattle.desk.specs.declared.view.View.{View}
use Rattle.inference.specs.declared.infer.Sources.{Sources}

-- what the sources say, one after the other
abbrev pub no_source : Sources
no_source = record { there = true; selected = false; hidden = true }

unfoldable pub weigh_one : List Hypothesis → Tree → Sources → Sources
weigh_one hs x j =
    record { there = j.there && present hs x; selected = j.selected || holds is_selected (flag_in hs x); hidden = j.hidden && holds is_hidden (flag_in hs x) }

unfoldable pub weigh : List Hypothesis → List Tree → Sources → Sources
weigh hs [] j = j
weigh hs (x ∷ xs) j = weigh hs xs (weigh_one hs x j)

-- the source is found at its position, or nowhere
unfoldable pub WeighIs : View → Option ℕ → Sources → Sources → Type 0
WeighIs v at j r =
    (desk places types : List ℕ) (hs : List Hypothesis) (y : Tree) → Holds desk places v types hs → length hs ≤ 64 → at ≡ position hs y → r ≡ weigh_one hs y j

unfoldable pub WeighAllIs : Hypotheses → Formulas → Sources → Type 0
WeighAllIs h l r = (types : List ℕ) (hs : List Hypothesis) (xs : List Tree) → Stand h types hs → length hs ≤ 64 → ListIs l xs → r ≡ weigh hs xs no_source

-- "D: S fails and all sources are hidden"
unfoldable pub hides_inferred : Sources → Bool
hides_inferred j = not j.selected && j.hidden

-- the hypothesis at i was visible before the act, and S holds
unfoldable pub ReselectIs : View → ℕ → Bool → Bool → Type 0
ReselectIs before i s r =
    (desk places types : List ℕ) (hs ks : List Hypothesis) (y : Tree) → Holds desk places before types hs → length hs ≤ 64 → Extends hs ks → i ≡ index_of ks y
    → r ≡ (s && holds is_visible (flag_in hs y))

-- an inference that leaves hypotheses hs on the desk and says whether it reselected, or has no room for them
unfoldable pub InferTo : Desk → List ℕ → List Hypothesis → Bool → Result Bool NoRoom → Type 0
InferTo d types hs again (Ok b) = OnDesk d types hs × (length hs ≤ 64) × (b ≡ again)
InferTo d types hs again (Err e) = TooMuch types hs

unfoldable pub InferOneIs : View → Sources → Desk → List ℕ → Desk → Result Bool NoRoom → Type 0
InferOneIs before j d x d' r =
    (desk₀ places₀ types : List ℕ) (hs ks : List Hypothesis) (y : Tree) → Holds desk₀ places₀ before types hs → length hs ≤ 64 → Extends hs ks
    → OnDesk d types ks → length ks ≤ 64 → x ≡ encode y
    → InferTo d' types (infer_one hs j.selected (hides_inferred j) y ks) (j.selected && holds is_visible (flag_in hs y)) r

unfoldable pub InferAllIs : Sources → Desk → Formulas → Desk → Result Bool NoRoom → Type 0
InferAllIs j d l d' r =
    (types : List ℕ) (hs : List Hypothesis) (xs : List Tree) → OnDesk d types hs → length hs ≤ 64 → ListIs l xs
    → InferTo d' types (infer_all hs j.selected (hides_inferred j) xs hs) (reselects hs j.selected xs) r
