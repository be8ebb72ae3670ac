-- Document 01: formulas and lists lent with an act. "A lent formula uses its sequent's identifiers. A lent list is a count byte 0..64 (else 7, place 0) and its formulas; an empty buffer is 1."
use Rattle.std.specs.Prelude.{ℕ, zero, suc, List, [], ◌∷◌, ◌++◌, length, get_or, ltb, leb}
use Rattle.refusal.specs.declared.Cause.TheVariants as cause
use Rattle.formula.specs.Reading.{Parsed, got, not_got, on_got}
use Rattle.formula.specs.Pick.{pick}
use Rattle.formula.specs.Tree.{Tree}
use Rattle.sequent.specs.ReadFile.{predicate_at, to_end}

unfoldable pub lent_predicate : List ℕ → List ℕ → Parsed Tree
lent_predicate types b = to_end b (predicate_at b types 0)

-- n formulas one after the other, after those read earlier
unfoldable pub predicates_at : List ℕ → List ℕ → ℕ → List Tree → ℕ → Parsed (List Tree)
predicates_at b types zero earlier p = got earlier p
predicates_at b types (suc n) earlier p = on_got (predicate_at b types p) (λ x q. predicates_at b types n (earlier ++ (x ∷ [])) q)

-- a list of at most `most` formulas
unfoldable pub lent_list : List ℕ → ℕ → List ℕ → Parsed (List Tree)
lent_list types most b =
    pick (leb (length b) 0) (not_got cause.Length 0)
    (pick (ltb most (get_or b 0 0)) (not_got cause.Count 0)
    (to_end b (predicates_at b types (get_or b 0 0) [] 1)))
