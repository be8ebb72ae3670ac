-- Document 01: reading a sequent file, left to right; "The header is asked 1 (length), 2, 3, 4 in that order".
use Rattle.std.specs.Prelude.{ℕ, zero, suc, ◌+◌, List, [], ◌∷◌, ◌++◌, Bool, true, not, ◌&&◌, ◌||◌, length, get_or, ltb, leb, eqb}
use Rattle.std.proofs.Math.Option.{Option, some, none}
use Rattle.refusal.specs.declared.Cause.TheVariants as cause
use Rattle.formula.specs.Pick.{pick}
use Rattle.formula.specs.Tree.{Tree}
use Rattle.formula.specs.Reading.{Parsed, got, not_got, on_got}
use Rattle.formula.specs.Formula.{tree_at}
use Rattle.formula.specs.declared.Sort.TheVariants as sort
use Rattle.desk.specs.Sequent.{Flag, plain, hidden, selected, Hypothesis, Sequent, present, hypothesis, sequent_of}

-- the predicate at a place: 1, 7, 9, then 8
unfoldable pub predicate_at : List ℕ → List ℕ → ℕ → Parsed Tree
predicate_at s types p = tree_at s types sort.Predicate p

-- nothing may follow: 11 at the first byte left over
abbrev pub to_end : {A : Type 0} → List ℕ → Parsed A → Parsed A
to_end b (not_got w p) = not_got w p
to_end b (got a e) = pick (ltb e (length b)) (not_got cause.After e) (got a e)

abbrev pub flag_of : ℕ → Option Flag
flag_of zero = some plain
flag_of (suc zero) = some hidden
flag_of (suc (suc zero)) = some selected
flag_of (suc (suc (suc n))) = none

module _ (s : List ℕ) where
  -- n type bytes: byte by byte, 1 where the bytes end, 5 for one over 2
  unfoldable pub types_at : ℕ → ℕ → Parsed (List ℕ)
  types_at zero p = got [] p
  types_at (suc n) p =
      pick (leb (length s) p) (not_got cause.Length p)
      (pick (ltb 2 (get_or s p 0)) (not_got cause.TypeByte p)
      (on_got (types_at n (p + 1)) (λ ts q. got (get_or s p 0 ∷ ts) q)))

  abbrev pub on_flag : Option Flag → ℕ → (Flag → Parsed (List Hypothesis)) → Parsed (List Hypothesis)
  on_flag none p k = not_got cause.FlagByte p
  on_flag (some f) p k = k f

  -- n hypotheses, after those read earlier: the flag, the formula, then 10 at the formula's first byte
  unfoldable pub hypotheses_at : List ℕ → ℕ → List Hypothesis → ℕ → Parsed (List Hypothesis)
  hypotheses_at types zero earlier p = got earlier p
  hypotheses_at types (suc n) earlier p =
      pick (leb (length s) p) (not_got cause.Length p)
      (on_flag (flag_of (get_or s p 0)) p (λ f. on_got (predicate_at s types (p + 1)) (λ x q.
      pick (present earlier x) (not_got cause.Twice (p + 1))
      (hypotheses_at types n (earlier ++ (hypothesis f x ∷ [])) q))))

  abbrev pub bad_mark : Bool
  bad_mark = not (eqb (get_or s 0 0) 0x53 && (eqb (get_or s 1 0) 0x51 && eqb (get_or s 2 0) 0x54))

  abbrev pub bad_version : Bool
  bad_version = not (eqb (get_or s 3 0) 1 && eqb (get_or s 4 0) 0)

  abbrev pub bad_numbers : Bool
  bad_numbers = ltb 64 (get_or s 5 0) || (ltb 64 (get_or s 6 0) || not (eqb (get_or s 7 0) 0))

  -- types, hypotheses, goal, and nothing after it
  unfoldable pub body_at : Parsed Sequent
  body_at =
      on_got (types_at (get_or s 5 0) 8) (λ types p.
      on_got (hypotheses_at types (get_or s 6 0) [] p) (λ hs q.
      on_got (to_end s (predicate_at s types q)) (λ goal e.
      got (sequent_of types hs goal) e)))

  -- the header, asked in this order
  unfoldable pub header_at : Parsed Bool
  header_at =
      pick (ltb (length s) 8 || ltb 60000 (length s)) (not_got cause.Length 0)
      (pick bad_mark (not_got cause.Mark 0)
      (pick bad_version (not_got cause.Version 3)
      (pick bad_numbers (not_got cause.Header 5)
      (got true 8))))

  unfoldable pub read_sequent : Parsed Sequent
  read_sequent = on_got header_at (λ fine p. body_at)
