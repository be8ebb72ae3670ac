-- The number after a code: its bytes, by what the row says that the code carries.
use Prim.Native.Nat.{ℕ, ◌+◌, ◌<◌, ◌≤◌, ◌^◌}
use mathlib.Core.Path.{◌≡◌, refl, sym, ap, ◌∙◌}
use mathlib.Core.List.{List, [], ◌∷◌, ◌++◌}
use native.Mathlib.Nat.{add-zero}
use native.Mathlib.Omega.{arith}
use lib.ListN.{length, get_or, take, drop, length-drop}
use lib.Seq.{take_at, length-take-le}
use Rattle.formula.specs.Codes.{Con, Rel, Fun, Many, Bind, Code, con, ident, bound, lit, rel, fun, many, qu, with_number}
use Rattle.formula.specs.Codes.{top, bot, empty, nat, nat1, tru, fls, eq, lt, le, gt, ge, mem, sub, sube, neg, imp, iff, minus, uminus, diff, bool, mapsto, and, or, add, mul, union, inter, ext, all, ex, compr}
use Rattle.formula.specs.NodeTable.{Number, nothing, identifier, index, word, count, variables, con_row, rel_row, fun_row, many_row, bind_row, row_of, width, operands}
use Rattle.formula.specs.Tree.{bytes_le, number_of, number_bytes}
use Rattle.formula.specs.Reading.{number_at, of_le}
use Rattle.formula.proofs.Places.{head_is, one_more, parted, AllBytes, drop_bytes, take_bytes, byte_small, le_long, le_there, le_back, le_small}

-- ---- by the number's form
abbrev pub bytes_of : Number → ℕ → List ℕ
bytes_of nothing n = []
bytes_of identifier n = n ∷ []
bytes_of index n = n ∷ []
bytes_of word n = bytes_le 8 n
bytes_of (count lo hi) n = n ∷ []
bytes_of (variables lo hi) n = n ∷ []

-- where nothing is carried, the number is 0
abbrev pub carried : Number → ℕ → ℕ
carried nothing n = 0
carried identifier n = n
carried index n = n
carried word n = n
carried (count lo hi) n = n
carried (variables lo hi) n = n

pub bytes_long : (f : Number) (n : ℕ) → length (bytes_of f n) ≡ width f
bytes_long nothing n = refl
bytes_long identifier n = refl
bytes_long index n = refl
bytes_long word n = le_long 8 n
bytes_long (count lo hi) n = refl
bytes_long (variables lo hi) n = refl

module _ (s : List ℕ) (i : ℕ) where
  word_there : (n : ℕ) (r : List ℕ) → n < 2 ^ 64 → drop i s ≡ bytes_le 8 n ++ r → of_le (take 8 (drop i s)) ≡ n
  word_there n r h e = ap (λ (l : List ℕ). of_le (take 8 l)) e ∙ ap of_le (take_at (bytes_le 8 n) r 8 (le_long 8 n)) ∙ le_there 8 n h

  -- a number's bytes stand for it, ..
  pub number_there : (f : Number) (n : ℕ) (r : List ℕ) → n < 2 ^ 64 → drop i s ≡ bytes_of f n ++ r → number_at f s i ≡ carried f n
  number_there nothing n r h e = refl
  number_there identifier n r h e = head_is s i n r e
  number_there index n r h e = head_is s i n r e
  number_there word n r h e = word_there n r h e
  number_there (count lo hi) n r h e = head_is s i n r e
  number_there (variables lo hi) n r h e = head_is s i n r e

  pub carried_at : (f : Number) → carried f (number_at f s i) ≡ number_at f s i
  carried_at = elim [ nothing ↦ refl | identifier ↦ refl | index ↦ refl | word ↦ refl | count lo hi ↦ refl | variables lo hi ↦ refl ]

  module _ (B : AllBytes s) where
    one_back : i + 1 ≤ length s → drop i s ≡ (get_or s i 0 ∷ []) ++ drop (i + 1) s
    one_back h = one_more s i (omega arith)

    word_back : i + 8 ≤ length s → drop i s ≡ bytes_le 8 (of_le (take 8 (drop i s))) ++ drop (i + 8) s
    word_back h =
        let l : length (take 8 (drop i s)) ≡ 8 = length-take-le 8 (drop i s) (omega (arith, length-drop i s)) in
        let b = le_back (take 8 (drop i s)) (take_bytes 8 (drop i s) (drop_bytes i s B)) in
        parted s i 8 ∙ ap (λ (a : List ℕ). a ++ drop (i + 8) s) (sym b ∙ ap (λ (n : ℕ). bytes_le n (of_le (take 8 (drop i s)))) l)

    -- .. and of bytes the number that stands there has no other
    pub number_back : (f : Number) → i + width f ≤ length s → drop i s ≡ bytes_of f (number_at f s i) ++ drop (i + width f) s
    number_back nothing h = ap (λ (n : ℕ). drop n s) (sym (add-zero i))
    number_back identifier h = one_back h
    number_back index h = one_back h
    number_back word h = word_back h
    number_back (count lo hi) h = one_back h
    number_back (variables lo hi) h = one_back h

    byte_in_word : get_or s i 0 < 2 ^ 64
    byte_in_word = let b = byte_small s i B in omega arith

    pub number_small : (f : Number) → number_at f s i < 2 ^ 64
    number_small nothing = omega arith
    number_small identifier = byte_in_word
    number_small index = byte_in_word
    number_small word = le_small 8 (drop i s) (drop_bytes i s B)
    number_small (count lo hi) = byte_in_word
    number_small (variables lo hi) = byte_in_word

-- ---- by the code's form
con_plain : (c : Con) → (con_row c).number ≡ nothing
con_plain = elim [ top ↦ refl | bot ↦ refl | empty ↦ refl | nat ↦ refl | nat1 ↦ refl | tru ↦ refl | fls ↦ refl ]

rel_plain : (r : Rel) → (rel_row r).number ≡ nothing
rel_plain = elim [ eq ↦ refl | lt ↦ refl | le ↦ refl | gt ↦ refl | ge ↦ refl | mem ↦ refl | sub ↦ refl | sube ↦ refl ]

fun_plain : (f : Fun) → (fun_row f).number ≡ nothing
fun_plain = elim [ neg ↦ refl | imp ↦ refl | iff ↦ refl | minus ↦ refl | uminus ↦ refl | diff ↦ refl | bool ↦ refl | mapsto ↦ refl ]

bind_declares : (b : Bind) → (bind_row b).number ≡ variables 1 8
bind_declares = elim [ all ↦ refl | ex ↦ refl | compr ↦ refl ]

many_bytes : (m : Many) (n : ℕ) → n ∷ [] ≡ bytes_of (many_row m).number n
many_bytes and n = refl
many_bytes or n = refl
many_bytes add n = refl
many_bytes mul n = refl
many_bytes union n = refl
many_bytes inter n = refl
many_bytes ext n = refl

many_counted : (m : Many) (n : ℕ) → operands (many_row m).arity n ≡ carried (many_row m).number n
many_counted and n = refl
many_counted or n = refl
many_counted add n = refl
many_counted mul n = refl
many_counted union n = refl
many_counted inter n = refl
many_counted ext n = refl

pub own_bytes_law : (k : Code) (n : ℕ) → number_bytes k n ≡ bytes_of (row_of k).number (number_of k n)
own_bytes_law (con c) n = rw (con_plain c)
own_bytes_law (ident k) n = refl
own_bytes_law (bound i) n = refl
own_bytes_law (lit w) n = refl
own_bytes_law (rel r) n = rw (rel_plain r)
own_bytes_law (fun f) n = rw (fun_plain f)
own_bytes_law (many m) n = many_bytes m n
own_bytes_law (qu b k) n = rw (bind_declares b)

pub own_long : (k : Code) (n : ℕ) → length (number_bytes k n) ≡ width (row_of k).number
own_long k n = rw own_bytes_law (bytes_long (row_of k).number (number_of k n))

-- a code that was given a number, with as many operands as that number says, has that number
pub given_number : (k : Code) (n : ℕ) → number_of (with_number k n) (operands (row_of k).arity n) ≡ carried (row_of k).number n
given_number (con c) n = rw (con_plain c)
given_number (ident k) n = refl
given_number (bound i) n = refl
given_number (lit w) n = refl
given_number (rel r) n = rw (rel_plain r)
given_number (fun f) n = rw (fun_plain f)
given_number (many m) n = many_counted m n
given_number (qu b k) n = rw (bind_declares b)

pub own_number : (k : Code) (n : ℕ) → with_number k (number_of k n) ≡ k
own_number (con c) n = refl
own_number (ident i) n = refl
own_number (bound i) n = refl
own_number (lit w) n = refl
own_number (rel r) n = refl
own_number (fun f) n = refl
own_number (many m) n = refl
own_number (qu b i) n = refl
