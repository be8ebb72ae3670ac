-- What the functions over lent buffers answer: a formula or a list read, and the sequent written.
use Rattle.std.specs.Prelude.{ℕ, suc, ◌+◌, ◌≤◌, ◌≡◌, List, [], ◌∷◌, Bool, length, take, drop, get_or, Result}
use Rattle.refusal.specs.declared.Refusal.{Refusal}
use Rattle.refusal.specs.declared.Said.{Said}
use Rattle.formula.specs.Reading.{got, not_got}
use Rattle.formula.specs.Tree.{Tree, encode}
use Rattle.desk.specs.Sequent.{Hypothesis, sequent_of}
use Rattle.desk.specs.Mirror.Bytes.{Stand}
use Rattle.desk.specs.Mirror.Moves.{ListIs}
use Rattle.desk.specs.declared.hypotheses.Hypotheses.{Hypotheses}
use Rattle.desk.specs.declared.list.List.{List as Formulas}
use Rattle.buffers.specs.Lent.{lent_predicate, lent_list, predicates_at}
use Rattle.buffers.specs.Outcome.{answer_of, written, finish}
use Rattle.buffers.specs.declared.Done.{Done}

-- ---- a lent formula: the whole buffer
pub record IsLent (types b : List ℕ) : Type 0 where
  pub formula : Tree
  pub read_is : lent_predicate types b ≡ got formula (length b)
  pub bytes_are : b ≡ encode formula

-- ---- where the formulas of a list stand
-- where each formula of a list starts, from p on, and where the last one ends
unfoldable pub starts_from : ℕ → List Tree → List ℕ
starts_from p [] = p ∷ []
starts_from p (x ∷ xs) = p ∷ starts_from (p + length (encode x)) xs

-- the formulas stand one after the other from p on; so those of a list from 1 on (BufferLaws.formulas_stand)
unfoldable pub FormulasStand : List ℕ → ℕ → List Tree → Type 0
FormulasStand b p [] = Unit {0}
FormulasStand b p (x ∷ xs) = (take (length (encode x)) (drop p b) ≡ encode x) × FormulasStand b (p + length (encode x)) xs

-- ---- n formulas of a list, or why not
pub record FormulasSeen (types b : List ℕ) (n : ℕ) (l : Formulas) : Type 0 where
  pub bytes_are : l.bytes.now ≡ b
  pub formulas : List Tree
  pub seen_are : predicates_at b types n [] 1 ≡ got formulas (get_or l.starts n 0)
  pub so_many : l.count ≡ n
  pub inside : get_or l.starts n 0 ≤ length b
  pub starts_are : take (suc l.count) l.starts ≡ starts_from 1 formulas
  pub list_is : ListIs l formulas

abbrev pub FormulasRefused : List ℕ → List ℕ → ℕ → Refusal → Type 0
FormulasRefused types b n x = predicates_at b types n [] 1 ≡ not_got x.cause x.at

-- ---- a lent list: the whole buffer, or why not
pub record Lists (types : List ℕ) (most : ℕ) (b : List ℕ) (l : Formulas) : Type 0 where
  pub bytes_are : l.bytes.now ≡ b
  pub formulas : List Tree
  pub read_is : lent_list types most b ≡ got formulas (length b)
  pub few : l.count ≤ most
  pub starts_are : take (suc l.count) l.starts ≡ starts_from 1 formulas
  pub list_is : ListIs l formulas

abbrev pub ListRefused : List ℕ → ℕ → List ℕ → Refusal → Type 0
ListRefused types most b x = lent_list types most b ≡ not_got x.cause x.at

-- ---- the sequent written, or 14
abbrev pub FinishIs : Hypotheses → List ℕ → Bool → List ℕ → List ℕ → Result Done Said → Type 0
FinishIs h g changed out out' r =
    (types : List ℕ) (hs : List Hypothesis) (goal : Tree) → Stand h types hs → length types ≤ 64 → length hs ≤ 64 → g ≡ encode goal
    → (r ≡ answer_of (finish (length out) (record { changed = changed; sequent = sequent_of types hs goal })))
    × (out' ≡ written (finish (length out) (record { changed = changed; sequent = sequent_of types hs goal })) out)
