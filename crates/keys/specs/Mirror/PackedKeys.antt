-- The rows of `Keys` as the code holds them: one number for each row, a byte for each of its columns, and before them where each source's rows stand.
use Rattle.std.specs.Prelude.{ℕ, ◌+◌, ◌*◌, ◌^◌, List, [], ◌∷◌, ◌++◌, map, Bool, true, false, length, get_or}
use Rattle.formula.specs.Pick.{pick}
use Rattle.formula.specs.Codes.{mem, rel_byte}
use Rattle.keys.specs.Keys.{Side, L, R, Z, Key, key, in_nat, in_nat1, Shape, equal, less, less_equal, in_set, inℕ, inℕ1, subset, subset_equal, Condition, always, integers, sets, zero_left, zero_right, positive, negative, Marked, rows_of}

-- ---- the columns of a row, a byte each: the bit where each starts
abbrev pub relation_column : ℕ
relation_column = 0

abbrev pub left_column : ℕ
left_column = 8

abbrev pub right_column : ℕ
right_column = 16

abbrev pub condition_column : ℕ
condition_column = 24

abbrev pub value_column : ℕ
value_column = 32

-- those of the number before the rows of a group: where they start, and how many they are
abbrev pub first_column : ℕ
first_column = 0

abbrev pub count_column : ℕ
count_column = 8

-- ---- what stands in them
abbrev pub side_number : Side → ℕ
side_number L = 0
side_number R = 1
side_number Z = 2

-- right sides that are ℕ or ℕ1
abbrev pub nat_number : ℕ
nat_number = 3

abbrev pub nat1_number : ℕ
nat1_number = 4

abbrev pub pack_key : Key → ℕ
pack_key (key q a b) = rel_byte q + 2 ^ left_column * side_number a + 2 ^ right_column * side_number b
pack_key (in_nat a) = rel_byte mem + 2 ^ left_column * side_number a + 2 ^ right_column * nat_number
pack_key (in_nat1 a) = rel_byte mem + 2 ^ left_column * side_number a + 2 ^ right_column * nat1_number

abbrev pub condition_number : Condition → ℕ
condition_number always = 0
condition_number integers = 1
condition_number sets = 2
condition_number zero_left = 3
condition_number zero_right = 4
condition_number positive = 5
condition_number negative = 6

abbrev pub pack_row : Marked → ℕ
pack_row m = pack_key m.key_is + 2 ^ condition_column * condition_number m.condition + 2 ^ value_column * pick m.value 1 0

-- the one row of a source that gives only itself has no relation
abbrev pub itself : Bool → ℕ
itself b = 2 ^ value_column * pick b 1 0

-- ---- the groups of rows by number: the shapes of a true source, those of a false one, itself true, itself false, a literal
abbrev pub shapes : List Shape
shapes = equal ∷ less ∷ less_equal ∷ in_set ∷ inℕ ∷ inℕ1 ∷ subset ∷ subset_equal ∷ []

abbrev pub shape_number : Shape → ℕ
shape_number equal = 0
shape_number less = 1
shape_number less_equal = 2
shape_number in_set = 3
shape_number inℕ = 4
shape_number inℕ1 = 5
shape_number subset = 6
shape_number subset_equal = 7

unfoldable pub group_number : Bool → ℕ → ℕ
group_number b n = pick b n (n + 8)

abbrev pub itself_number : Bool → ℕ
itself_number b = pick b 16 17

abbrev pub nothing_number : ℕ
nothing_number = 18

abbrev pub groups : List (List ℕ)
groups = map (λ q. map pack_row (rows_of true q)) shapes ++ map (λ q. map pack_row (rows_of false q)) shapes ++ ((itself true ∷ []) ∷ (itself false ∷ []) ∷ [] ∷ [])

-- the first row of each group, and how many rows it has
abbrev pub directory : ℕ → List (List ℕ) → List ℕ
directory p [] = []
directory p (g ∷ gs) = (p + 2 ^ count_column * length g) ∷ directory (p + length g) gs

abbrev pub joined : List (List ℕ) → List ℕ
joined [] = []
joined (g ∷ gs) = g ++ joined gs

-- THE KEYS: the constant array of the code is this list
unfoldable pub key_table : List ℕ
key_table = directory (length groups) groups ++ joined groups

unfoldable pub key_at : ℕ → ℕ
key_at i = get_or key_table i 0
