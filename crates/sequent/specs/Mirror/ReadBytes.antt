-- What the functions of the file reader answer: each part of the file, and where hypotheses stand.
use Rattle.std.specs.Prelude.{ℕ, ◌+◌, ◌≤◌, ◌≡◌, List, [], length, get_or, take, drop, slice_range, is_some, ltb, leb, eqb, Result, Ok, Err}
use Rattle.refusal.specs.Refusal.{refused}
use Rattle.refusal.specs.declared.Cause.TheVariants as cause
use Rattle.refusal.specs.declared.Refusal.{Refusal}
use Rattle.formula.specs.Reading.{Parsed, got, not_got, on_got}
use Rattle.formula.specs.Formula.{read_formula}
use Rattle.formula.specs.Pick.{pick}
use Rattle.formula.specs.declared.Sort.TheVariants as sort
use Rattle.desk.specs.Sequent.{Hypothesis, Sequent, sequent_of}
use Rattle.desk.specs.Mirror.Desk.{Holds}
use Rattle.desk.specs.Mirror.Bytes.{find_in}
use Rattle.desk.specs.Mirror.Masks.{with_flag}
use Rattle.desk.specs.declared.hypotheses.Hypotheses.{Hypotheses}
use Rattle.desk.specs.declared.view.View.{View}
use Rattle.sequent.specs.ReadFile.{predicate_at, to_end, hypotheses_at, read_sequent}
use Rattle.sequent.specs.Mirror.Opened.{Open}
use Rattle.sequent.specs.declared.Opened.{Opened}

-- only whether something was seen
abbrev pub check_of : {A : Type 0} → Parsed A → Result (Unit {0}) Refusal
check_of (got a p) = Ok tt
check_of (not_got w p) = Err (refused w p)

-- ---- a hypothesis, after those that stand: its flag byte and its end
abbrev pub unless_twice : Hypotheses → Result ℕ Refusal → Result (ℕ × ℕ) Refusal
unless_twice h (Err x) = Err x
unless_twice h (Ok e) =
    pick (is_some (find_in h (slice_range h.bytes.now (h.view.end + 1) e))) (Err (refused cause.Twice (h.view.end + 1))) (Ok (get_or h.bytes.now h.view.end 0, e))

-- the flag, the formula, then 10
unfoldable pub item_at : Hypotheses → List ℕ → Result (ℕ × ℕ) Refusal
item_at h types =
    pick (leb (length h.bytes.now) h.view.end) (Err (refused cause.Length h.view.end))
    (pick (ltb 2 (get_or h.bytes.now h.view.end 0)) (Err (refused cause.FlagByte h.view.end))
    (unless_twice h (read_formula h.bytes.now types sort.Predicate (h.view.end + 1))))

-- one more hypothesis, with this flag byte and this end
abbrev pub with_hypothesis : View → ℕ → ℕ → View
with_hypothesis v b e = record (with_flag v v.hypotheses (eqb b 1) (eqb b 2)) { hypotheses = v.hypotheses + 1; end = e }

-- ---- the hypotheses that are read, and where they stand; or why not
pub record HypothesesSeen (s types : List ℕ) (h : ℕ) (seen : View × List ℕ) : Type 0 where
  pub hypotheses : List Hypothesis
  pub seen_is : hypotheses_at s types h [] (8 + length types) ≡ got hypotheses seen.0.end
  pub held : Holds s seen.1 seen.0 types hypotheses

abbrev pub HypothesesRefused : List ℕ → List ℕ → ℕ → Refusal → Type 0
HypothesesRefused s types h x = hypotheses_at s types h [] (8 + length types) ≡ not_got x.cause x.at

-- ---- the file
-- what follows the type bytes: h hypotheses, the goal, and nothing after it
unfoldable pub rest_at : List ℕ → List ℕ → ℕ → Parsed Sequent
rest_at s types h =
    on_got (hypotheses_at s types h [] (8 + length types)) (λ hs q. on_got (to_end s (predicate_at s types q)) (λ goal e. got (sequent_of types hs goal) e))

-- the header is fine, and the types are the bytes after it
pub record TypesSeen (s types : List ℕ) : Type 0 where
  pub inside : 8 + length types ≤ length s
  pub stand : take (length types) (drop 8 s) ≡ types
  pub few : get_or s 6 0 ≤ 64
  pub seen_is : read_sequent s ≡ rest_at s types (get_or s 6 0)

-- a sequent opened in these bytes
pub record Opens (s : List ℕ) (o : Opened) : Type 0 where
  pub bytes_are : o.bytes.now ≡ s
  pub is_open : Open s o.places o.view

-- it is not read, for this
abbrev pub Refuses : List ℕ → Refusal → Type 0
Refuses s x = read_sequent s ≡ not_got x.cause x.at
