-- A lent formula, and a lent list: what is read is accepted, and the buffer is its bytes.
use Prim.Native.Nat.{ℕ, zero, suc, ◌+◌, ◌≤◌}
use mathlib.Core.Path.{◌≡◌, refl, sym, ap, ◌∙◌}
use mathlib.Core.Bool.{false}
use mathlib.Core.List.{List, [], ◌∷◌, ◌++◌, append_assoc, append-nil}
use native.Mathlib.Nat.{zero-add}
use native.Mathlib.Omega.{arith}
use lib.ListN.{length, get_or, drop, length-append, drop_of_length-le}
use lib.Dec.{ltb, leb}
use borrow.Author.Tests.{leb-false, ltb-false, lt-leb, le-ltb}
use Rattle.formula.specs.Reading.{got}
use Rattle.formula.specs.Tree.{Tree, encode}
use Rattle.formula.specs.Formula.{Formula}
use Rattle.formula.specs.declared.Sort.TheVariants as sort
use Rattle.formula.proofs.Places.{AllBytes, one_more, behind}
use Rattle.formula.proofs.Back.{OfGot, on_got_law, unless}
use Rattle.desk.proofs.Formulas.{Each, each_append}
use Rattle.sequent.specs.ReadFile.{predicate_at}
use Rattle.sequent.specs.ReadFile.{to_end}
use Rattle.sequent.proofs.SeenIs.{to_end_law, so_seen, of_seen, PredicateStands, reads_predicate, predicate_stood}
use Rattle.buffers.specs.Lent.{lent_predicate, predicates_at, lent_list}

-- formulas one after the other
unfoldable pub formulas_bytes : List Tree → List ℕ
formulas_bytes [] = []
formulas_bytes (x ∷ xs) = encode x ++ formulas_bytes xs

bytes_joined : (xs ys : List Tree) → formulas_bytes (xs ++ ys) ≡ formulas_bytes xs ++ formulas_bytes ys
unfolding formulas_bytes
bytes_joined [] ys = refl
bytes_joined (x ∷ xs) ys = rw (bytes_joined xs ys, append_assoc (encode x) (formulas_bytes xs) (formulas_bytes ys)) refl

-- ---- an accepted formula, or a list of them, is read back
to_end_read : {A : Type 0} (b : List ℕ) (a : A) (e : ℕ) → length b ≤ e → to_end b (got a e) ≡ got a e
to_end_read b a e h = rw (le-ltb e (length b) h) refl

module _ (types : List ℕ) where
  pub lent_read : (x : Tree) → Formula types sort.Predicate x → lent_predicate types (encode x) ≡ got x (length (encode x))
  unfolding lent_predicate
  lent_read x F = rw (reads_predicate (encode x) types 0 x [] F (sym (append-nil (encode x))), zero-add (length (encode x))) (to_end_read (encode x) x (length (encode x)) (omega arith))

  reads_formulas : (b : List ℕ) (xs earlier : List Tree) (p : ℕ) → Each (Formula types sort.Predicate) xs → drop p b ≡ formulas_bytes xs
      → predicates_at b types (length xs) earlier p ≡ got (earlier ++ xs) (p + length (formulas_bytes xs))
  unfolding predicates_at formulas_bytes
  reads_formulas b [] earlier p E e = rw (append-nil earlier) (ap (got earlier) (omega arith))
  reads_formulas b (x ∷ xs) earlier p E e =
      let n = length-append (encode x) (formulas_bytes xs) in
      rw (reads_predicate b types p x (formulas_bytes xs) E.0 e)
      (reads_formulas b xs (earlier ++ (x ∷ [])) (p + length (encode x)) E.1 (behind b p (encode x) (formulas_bytes xs) e)
      ∙ rw (append_assoc earlier (x ∷ []) xs) (ap (got (earlier ++ (x ∷ xs))) (omega arith)))

  pub list_read : (most : ℕ) (xs : List Tree) → Each (Formula types sort.Predicate) xs → length xs ≤ most
      → lent_list types most (length xs ∷ formulas_bytes xs) ≡ got xs (length (length xs ∷ formulas_bytes xs))
  unfolding lent_list
  list_read most xs E h =
      let b = length xs ∷ formulas_bytes xs in
      let n : 1 + length (formulas_bytes xs) ≡ length b = omega arith in
      rw (lt-leb (length b) 0 (omega arith), le-ltb most (length xs) h, reads_formulas b xs [] 1 E refl, n) (to_end_read b xs (length b) (omega arith))

-- ---- what is read is accepted, and the buffer is its bytes
module _ (b types : List ℕ) where
  -- ---- a formula
  abbrev IsLent : Tree → ℕ → Type 0
  IsLent x e = Formula types sort.Predicate x × (b ≡ encode x) × (e ≡ length b)

  pub lent_is : AllBytes b → (x : Tree) (e : ℕ) → lent_predicate types b ≡ got x e → Formula types sort.Predicate x × (b ≡ encode x) × (e ≡ length b)
  unfolding lent_predicate
  lent_is B = of_seen IsLent (to_end b (predicate_at b types 0)) (to_end_law b (PredicateStands b types 0) IsLent (predicate_at b types 0) (predicate_stood b types 0 B) all)
    where
      all : (x : Tree) (e : ℕ) → PredicateStands b types 0 x e → length b ≤ e → IsLent x e
      all x e S h = let i = S.inside in (S.is_formula, S.stands ∙ rw (drop_of_length-le b h, append-nil (encode x)) refl, omega arith)

  -- ---- n formulas from p on, after those read earlier
  record FormulasStood (n : ℕ) (earlier : List Tree) (p : ℕ) (xs : List Tree) (q : ℕ) : Type 0 where
    so_many : length xs ≡ length earlier + n
    predicates : Each (Formula types sort.Predicate) xs
    stand : formulas_bytes earlier ++ drop p b ≡ formulas_bytes xs ++ drop q b
    inside : p ≤ length b → q ≤ length b

  formulas_stood : AllBytes b → (n : ℕ) (earlier : List Tree) (p : ℕ) → Each (Formula types sort.Predicate) earlier → OfGot (FormulasStood n earlier p) (predicates_at b types n earlier p)
  unfolding predicates_at formulas_bytes
  formulas_stood B zero earlier p P = record { so_many = omega arith; predicates = P; stand = refl; inside = λ h. h }
  formulas_stood B (suc n) earlier p P =
      on_got_law (PredicateStands b types p) (FormulasStood (suc n) earlier p) (predicate_at b types p) _ (predicate_stood b types p B) λ x m X.
      let l = earlier ++ (x ∷ []) in
      so_seen (FormulasStood n l m) (FormulasStood (suc n) earlier p) (predicates_at b types n l m) (formulas_stood B n l m (each_append (Formula types sort.Predicate) earlier (x ∷ []) P (X.is_formula, tt))) λ xs q H.
      let a : formulas_bytes l ≡ formulas_bytes earlier ++ encode x = bytes_joined earlier (x ∷ []) ∙ rw (append-nil (encode x)) refl in
      let i = length-append earlier (x ∷ []) in
      let j = H.so_many in
      record {
        so_many = omega arith;
        predicates = H.predicates;
        stand = rw X.stands (sym (append_assoc (formulas_bytes earlier) (encode x) (drop m b)) ∙ rw (← a) H.stand);
        inside = λ h. H.inside X.inside;
      }

  module _ (most : ℕ) where
    abbrev AreLent : List Tree → ℕ → Type 0
    AreLent xs e = Each (Formula types sort.Predicate) xs × (length xs ≤ most) × (b ≡ length xs ∷ formulas_bytes xs) × (e ≡ length b)

    -- the count byte and its formulas
    counted : leb (length b) 0 ≡ false → ltb most (get_or b 0 0) ≡ false → (xs : List Tree) (e : ℕ) → FormulasStood (get_or b 0 0) [] 1 xs e → length b ≤ e → AreLent xs e
    unfolding formulas_bytes
    counted h k xs e F l =
        let i = leb-false (length b) 0 h in
        let j = F.inside (omega arith) in
        let n : length xs ≡ get_or b 0 0 = let m = F.so_many in omega arith in
        (F.predicates, rw n (ltb-false most (get_or b 0 0) k), one_more b 0 i ∙ rw (n, F.stand, drop_of_length-le b l, append-nil (formulas_bytes xs)) refl, omega arith)

    pub list_is : AllBytes b → (xs : List Tree) (e : ℕ) → lent_list types most b ≡ got xs e
        → Each (Formula types sort.Predicate) xs × (length xs ≤ most) × (b ≡ length xs ∷ formulas_bytes xs) × (e ≡ length b)
    unfolding lent_list
    list_is B = of_seen AreLent _
        (unless AreLent (leb (length b) 0) _ _ _ λ h.
        unless AreLent (ltb most (get_or b 0 0)) _ _ _ λ k.
        to_end_law b (FormulasStood (get_or b 0 0) [] 1) AreLent (predicates_at b types (get_or b 0 0) [] 1) (formulas_stood B (get_or b 0 0) [] 1 tt) (counted h k))
