-- Document 01, "Node codes": each code with the number that it carries inside, and its byte.
use Rattle.std.specs.Prelude.{ℕ, List, [], ◌∷◌}
use Rattle.formula.specs.Pick.{at}
use Rattle.std.proofs.Math.Option.{Option, some, none}

-- ⊤ ⊥ ∅ ℕ ℕ1 TRUE FALSE
pub data Con : Type 0 where
  top bot empty nat nat1 tru fls : Con

-- = < ≤ > ≥ ∈ ⊂ ⊆
pub data Rel : Type 0 where
  eq lt le gt ge mem sub sube : Rel

-- ¬ ⇒ ⇔, minus, unary minus, set difference, bool(p), ↦
pub data Fun : Type 0 where
  neg imp iff minus uminus diff bool mapsto : Fun

-- ∧ ∨ + × ∪ ∩ and extension: as many operands as the count says
pub data Many : Type 0 where
  and or add mul union inter ext : Many

-- ∀ ∃ and comprehension
pub data Bind : Type 0 where
  all ex compr : Bind

-- identifier k; bound i (0 is the innermost); literal of eight bytes, as a number below 2 ^ 64; a binder of n integer variables
pub data Code : Type 0 where
  con : Con → Code
  ident : ℕ → Code
  bound : ℕ → Code
  lit : ℕ → Code
  rel : Rel → Code
  fun : Fun → Code
  many : Many → Code
  qu : Bind → ℕ → Code

abbrev pub con_byte : Con → ℕ
con_byte top = 0x01
con_byte bot = 0x02
con_byte empty = 0x23
con_byte nat = 0x24
con_byte nat1 = 0x25
con_byte tru = 0x31
con_byte fls = 0x32

abbrev pub rel_byte : Rel → ℕ
rel_byte eq = 0x10
rel_byte lt = 0x11
rel_byte le = 0x12
rel_byte gt = 0x13
rel_byte ge = 0x14
rel_byte mem = 0x15
rel_byte sub = 0x16
rel_byte sube = 0x17

abbrev pub fun_byte : Fun → ℕ
fun_byte neg = 0x03
fun_byte imp = 0x06
fun_byte iff = 0x07
fun_byte minus = 0x28
fun_byte uminus = 0x29
fun_byte diff = 0x2C
fun_byte bool = 0x2E
fun_byte mapsto = 0x2F

abbrev pub many_byte : Many → ℕ
many_byte and = 0x04
many_byte or = 0x05
many_byte add = 0x26
many_byte mul = 0x27
many_byte union = 0x2A
many_byte inter = 0x2B
many_byte ext = 0x2D

abbrev pub bind_byte : Bind → ℕ
bind_byte all = 0x08
bind_byte ex = 0x09
bind_byte compr = 0x30

abbrev pub byte_of : Code → ℕ
byte_of (con c) = con_byte c
byte_of (ident k) = 0x20
byte_of (bound i) = 0x21
byte_of (lit w) = 0x22
byte_of (rel r) = rel_byte r
byte_of (fun f) = fun_byte f
byte_of (many m) = many_byte m
byte_of (qu b n) = bind_byte b

-- the codes by their bytes 00..32 (the numbers inside play no part here)
unfoldable pub codes : List (Option Code)
codes =
    none ∷ some (con top) ∷ some (con bot) ∷ some (fun neg) ∷ some (many and) ∷ some (many or) ∷ some (fun imp) ∷ some (fun iff) ∷
    some (qu all 0) ∷ some (qu ex 0) ∷ none ∷ none ∷ none ∷ none ∷ none ∷ none ∷
    some (rel eq) ∷ some (rel lt) ∷ some (rel le) ∷ some (rel gt) ∷ some (rel ge) ∷ some (rel mem) ∷ some (rel sub) ∷ some (rel sube) ∷
    none ∷ none ∷ none ∷ none ∷ none ∷ none ∷ none ∷ none ∷
    some (ident 0) ∷ some (bound 0) ∷ some (lit 0) ∷ some (con empty) ∷ some (con nat) ∷ some (con nat1) ∷ some (many add) ∷ some (many mul) ∷
    some (fun minus) ∷ some (fun uminus) ∷ some (many union) ∷ some (many inter) ∷ some (fun diff) ∷ some (many ext) ∷ some (fun bool) ∷ some (fun mapsto) ∷
    some (qu compr 0) ∷ some (con tru) ∷ some (con fls) ∷ []

-- the code of a byte; none: unknown
unfoldable pub code_at : ℕ → Option Code
code_at b = at codes b

-- the code with the number n
abbrev pub with_number : Code → ℕ → Code
with_number (con c) n = con c
with_number (ident k) n = ident n
with_number (bound i) n = bound n
with_number (lit w) n = lit n
with_number (rel r) n = rel r
with_number (fun f) n = fun f
with_number (many m) n = many m
with_number (qu b k) n = qu b n
