-- The table as the code holds it: one number for each code, a byte for each of its eight columns.
use Rattle.std.specs.Prelude.{ℕ, ◌+◌, ◌*◌, ◌/◌, ◌%◌, ◌^◌, List, [], ◌∷◌, map, length, get_or, ltb, eqb}
use Rattle.std.proofs.Math.Option.{Option, some, none}
use Rattle.formula.specs.Pick.{pick}
use Rattle.formula.specs.Codes.{Code, codes}
use Rattle.formula.specs.Types.{prop, int, boo, set, nats, nats1, Kind, one, pairs, kind_of, Rest, these, as_first}
use Rattle.formula.specs.NodeTable.{Row, row_of, Number, nothing, identifier, index, word, count, variables, width, Arity, fixed, counted, Result, is, of_identifier, of_pair, sort_of}
use Rattle.formula.specs.declared.Sort.{Sort}
use Rattle.formula.specs.declared.Sort.TheVariants as sorts

-- ---- a row as a number
-- one bit for each kind, so that "may stand here" is one `and`
abbrev pub bit : Kind → ℕ
bit (one prop) = 1
bit (one int) = 2
bit (one boo) = 4
bit (one set) = 8
bit (one nats) = 16
bit (one nats1) = 32
bit pairs = 64

abbrev pub mask : List Kind → ℕ
mask [] = 0
mask (k ∷ ks) = bit k + mask ks

abbrev pub rest_mask : Rest → ℕ
rest_mask (these ks) = mask ks
rest_mask as_first = 0

abbrev pub least : Number → ℕ
least nothing = 0
least identifier = 0
least index = 0
least word = 0
least (count lo hi) = lo
least (variables lo hi) = lo

-- the greatest count; 0 and 1: below the number of identifiers, of variables bound; 2: no count
abbrev pub limit : Number → ℕ
limit nothing = 2
limit identifier = 0
limit index = 1
limit word = 2
limit (count lo hi) = hi
limit (variables lo hi) = hi

-- 1: the number counts variables that the node binds
abbrev pub binder : Number → ℕ
binder nothing = 0
binder identifier = 0
binder index = 0
binder word = 0
binder (count lo hi) = 0
binder (variables lo hi) = 1

-- 3: as many as the count says
abbrev pub arity_byte : Arity → ℕ
arity_byte (fixed k) = k
arity_byte counted = 3

-- 0: the identifier's
abbrev pub result_bit : Result → ℕ
result_bit (is τ) = bit (kind_of τ)
result_bit of_identifier = 0
result_bit of_pair = 64

-- the kinds of a sort
abbrev pub sort_mask : Sort → ℕ
sort_mask sorts.Predicate = 1
sort_mask sorts.Expression = 126

abbrev pub pack : Row → ℕ
pack r =
    width r.number + 2 ^ 8 * least r.number + 2 ^ 16 * limit r.number + 2 ^ 24 * (arity_byte r.arity + 4 * binder r.number)
    + 2 ^ 32 * mask r.first + 2 ^ 40 * rest_mask r.rest + 2 ^ 48 * result_bit r.result + 2 ^ 56 * sort_mask (sort_of r.result)

abbrev pub pack_code : Option Code → ℕ
pack_code none = 0
pack_code (some k) = pack (row_of k)

-- THE TABLE: the constant array of the code is this list
unfoldable pub table : List ℕ
table = map pack_code codes

unfoldable pub row_at : ℕ → ℕ
row_at c = get_or table c 0

-- ---- its columns
unfoldable pub field : ℕ → ℕ → ℕ
field x k = x / 2 ^ k % 256

abbrev pub own : ℕ → ℕ
own x = field x 0

abbrev pub lo : ℕ → ℕ
lo x = field x 8

abbrev pub lim : ℕ → ℕ
lim x = field x 16

-- the operands, and whether the node binds variables
abbrev pub kids : ℕ → ℕ
kids x = field x 24 % 4

abbrev pub binds : ℕ → ℕ
binds x = field x 24 / 4

-- the kinds that the first and the other operands may have (0: that of the first)
abbrev pub first : ℕ → ℕ
first x = field x 32

abbrev pub rest : ℕ → ℕ
rest x = field x 40

abbrev pub res : ℕ → ℕ
res x = field x 48

abbrev pub sort : ℕ → ℕ
sort x = field x 56

-- ---- what the code asks of a row x and the byte n after its code
-- what the node carries after its code
unfoldable pub number_in : ℕ → Number
number_in x =
    pick (eqb (lim x) 0) identifier
    (pick (eqb (lim x) 1) index
    (pick (eqb (lim x) 2) (pick (eqb (own x) 8) word nothing)
    (pick (eqb (binds x) 0) (count (lo x) (lim x)) (variables (lo x) (lim x)))))

unfoldable pub count_of : ℕ → ℕ → ℕ
count_of x n = pick (eqb (kids x) 3) n (kids x)

unfoldable pub binds_of : ℕ → ℕ → ℕ
binds_of x n = pick (eqb (binds x) 0) 0 n

unfoldable pub ident_type : List ℕ → ℕ → ℕ
ident_type types n = pick (ltb n (length types)) (pick (eqb (get_or types n 0) 0) 2 (pick (eqb (get_or types n 0) 1) 4 8)) 0

unfoldable pub type_by : ℕ → List ℕ → ℕ → ℕ
type_by x types n = pick (eqb (res x) 0) (ident_type types n) (res x)

-- the row that stands above a whole formula of a sort: one operand of any of its kinds
unfoldable pub root_row : Sort → ℕ
root_row σ = 2 ^ 32 * sort_mask σ + 2 ^ 40 * sort_mask σ
