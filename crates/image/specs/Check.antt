-- The image check: 0, or the first of the refusals 1 to 10 that is due, each tested over the whole image. Assumes nothing.
use Rattle.std.specs.Prelude.{ℕ, zero, suc, ◌+◌, ◌*◌, Bool, true, false, ◌&&◌, ◌||◌, List, [], ◌∷◌, length, eqb, leb, ltb}
use Rattle.std.proofs.Math.Option.{Option, none, some}
use Rattle.names.specs.Names.{same}
use Rattle.image.specs.Ty.{NONE, size}
use Rattle.image.specs.declared.Table.{Table}
use Rattle.image.specs.declared.Table.TheVariants.{Names, Identifiers, Slots, Types, Lists, Shapes, Properties, Functions}
use Rattle.image.specs.Image.{word, version, header_words, most_options, count, offset, width, cell, name_at, Node, node_var, node_leaf, node_object, node_function, node_phi, node_other, node_at, operands, type_at}
use Rattle.image.specs.Body.{Body, bodies}
use Rattle.image.specs.Nesting.{nesting_sound}

-- so many rows from k on pass a test
unfoldable pub rows_pass : (ℕ → Bool) → ℕ → ℕ → Bool
rows_pass test k zero = true
rows_pass test k (suc n) = elim (test k) [ true ↦ rows_pass test (suc k) n | false ↦ false ]

-- every row of a table passes a test
unfoldable pub each : Table → List ℕ → (ℕ → Bool) → Bool
each t img test = rows_pass test 0 (count t img)

-- a range lies in what it is a part of; an empty one starts there or at its end
unfoldable pub inside : ℕ → ℕ → ℕ → Bool
inside start n total = leb (start + n) total

-- a number of a table's row
unfoldable pub in_table : Table → List ℕ → ℕ → Bool
in_table t img n = ltb n (count t img)

-- a number of a table's row, or NONE
unfoldable pub in_table_or_none : Table → List ℕ → ℕ → Bool
in_table_or_none t img n = eqb n NONE || ltb n (count t img)

-- 1: "image under 20 or over 65,536 words"
unfoldable pub image_fits : List ℕ → Bool
image_fits img = leb (header_words img) (length img) && leb (length img) 65536

-- 2: "over 65,536 name bytes"
unfoldable pub names_fit : List ℕ → Bool
names_fit bytes = leb (length bytes) 65536

-- 3: "budget over 65,536"
unfoldable pub budget_fits : ℕ → Bool
budget_fits budget = leb budget 65536

-- 4: "work words fewer than 8 × (image words + budget)"
unfoldable pub work_fits : List ℕ → ℕ → ℕ → Bool
work_fits img budget work = leb (8 * (length img + budget)) work

-- 5: "a table that starts before word 20 or leaves the image"
unfoldable pub table_fits : List ℕ → Table → Bool
table_fits img t = leb (header_words img) (offset t img) && inside (offset t img) (count t img * width t img) (length img)

-- 5: every table
unfoldable pub tables_fit : List ℕ → Bool
tables_fit img =
    table_fits img Names
    && (table_fits img Identifiers
    && (table_fits img Slots
    && (table_fits img Types
    && (table_fits img Lists
    && (table_fits img Shapes
    && (table_fits img Properties
    && table_fits img Functions))))))

-- 5: "version, options above 3, no function, wrong word 19, or a table .."
unfoldable pub header_sound : List ℕ → Bool
header_sound img =
    eqb (version img) 1
    && (leb (word img 1) (most_options img)
    && (ltb 0 (count Functions img)
    && (eqb (word img 19) (length img)
    && tables_fit img)))

-- 6: what a row of a table refers to: "a number outside its table in identifiers, slots, properties ..,
-- a name outside the name bytes, a body outside the image"
unfoldable pub reference_sound : Table → (img : List ℕ) → (name_bytes : ℕ) → ℕ → Bool
reference_sound Names img name_bytes n = inside (cell Names img n 0) (cell Names img n 1) name_bytes
reference_sound Identifiers img name_bytes n = in_table Slots img (cell Identifiers img n 0) && in_table_or_none Names img (cell Identifiers img n 1)
reference_sound Slots img name_bytes n = in_table Types img (cell Slots img n 0)
reference_sound Types img name_bytes n = true
reference_sound Lists img name_bytes n = true
reference_sound Shapes img name_bytes n = true
reference_sound Properties img name_bytes n = in_table Names img (cell Properties img n 0) && in_table Types img (cell Properties img n 1)
reference_sound Functions img name_bytes n = inside (cell Functions img n 0) (cell Functions img n 1) (length img)

-- 6: every row of a table
unfoldable pub table_sound : (img : List ℕ) → (name_bytes : ℕ) → Table → Bool
table_sound img name_bytes t = each t img (reference_sound t img name_bytes)

-- 6: ".. or the hook word"
unfoldable pub references_sound : (img : List ℕ) → (name_bytes : ℕ) → Bool
references_sound img name_bytes =
    in_table_or_none Types img (word img 2)
    && (table_sound img name_bytes Names
    && (table_sound img name_bytes Identifiers
    && (table_sound img name_bytes Slots
    && (table_sound img name_bytes Properties
    && table_sound img name_bytes Functions))))

-- 7: "Return types and operands have smaller type numbers than their owner"
unfoldable pub all_below : ℕ → List ℕ → Bool
all_below n [] = true
all_below n (m ∷ ms) = elim (ltb m n) [ true ↦ all_below n ms | false ↦ false ]

-- 7: a row of the type table; "Unused fields are 0"
unfoldable pub node_sound : List ℕ → ℕ → Node → Bool
node_sound img n (node_var a b) = in_table Slots img a && eqb b 0
node_sound img n (node_leaf t a b) = eqb a 0 && eqb b 0
node_sound img n (node_object a b) = in_table_or_none Shapes img a && eqb b 0
node_sound img n (node_function c a b) = in_table_or_none Shapes img a && ltb b n
node_sound img n (node_phi a b) = elim (inside a b (count Lists img)) [ true ↦ all_below n (operands img a b) | false ↦ false ]
node_sound img n (node_other a b) = false

-- 7: "Written out as in the tables below, a type takes at most 4,096 words"
unfoldable pub type_short : List ℕ → ℕ → Bool
type_short img n = leb (size (type_at img n)) 4096

-- 7: type n keeps the rules of its kind and is short enough
unfoldable pub type_sound : List ℕ → ℕ → Bool
type_sound img n = elim (node_sound img n (node_at img n)) [ true ↦ type_short img n | false ↦ false ]

-- 7
unfoldable pub types_sound : List ℕ → Bool
types_sound img = each Types img (type_sound img)

-- 8: whether some of n property rows from k on has these name bytes
unfoldable pub among : List ℕ → List ℕ → List ℕ → ℕ → ℕ → Bool
among img bytes name k zero = false
among img bytes name k (suc n) = elim (same name (name_at img bytes (cell Properties img k 0))) [ true ↦ true | false ↦ among img bytes name (suc k) n ]

-- 8: no "two properties of one shape with equal name bytes", for n rows from k on
unfoldable pub distinct : List ℕ → List ℕ → ℕ → ℕ → Bool
distinct img bytes k zero = true
distinct img bytes k (suc n) = elim (among img bytes (name_at img bytes (cell Properties img k 0)) (suc k) n) [ true ↦ false | false ↦ distinct img bytes (suc k) n ]

-- 8: present, first property, count: "a present word above 1, properties outside their table or under an absent shape"
unfoldable pub shape_row_sound : List ℕ → List ℕ → (present first n : ℕ) → Bool
shape_row_sound img bytes present first n =
    elim (leb present 1 && inside first n (count Properties img) && (eqb present 1 || eqb n 0)) [
      | true ↦ distinct img bytes first n
      | false ↦ false
    ]

-- 8: a shape's row
unfoldable pub shape_sound : List ℕ → List ℕ → ℕ → Bool
shape_sound img bytes s = shape_row_sound img bytes (cell Shapes img s 0) (cell Shapes img s 1) (cell Shapes img s 2)

-- 8: "fewer than nine shapes", or a shape row broken
unfoldable pub shapes_sound : List ℕ → List ℕ → Bool
shapes_sound img bytes = leb 9 (count Shapes img) && each Shapes img (shape_sound img bytes)

-- 9: two bodies, none of them empty, have no word in common
unfoldable pub apart : List ℕ → ℕ → ℕ → Bool
apart img f g = inside (cell Functions img f 0) (cell Functions img f 1) (cell Functions img g 0) || inside (cell Functions img g 0) (cell Functions img g 1) (cell Functions img f 0)

-- 9: no body is "sharing a word with another body"
unfoldable pub apart_from_earlier : List ℕ → ℕ → Bool
apart_from_earlier img g = rows_pass (λ f. apart img f g) 0 g

-- 9: whether the bodies were read
unfoldable pub all_read : Option (List Body) → Bool
all_read none = false
all_read (some bs) = true

-- 9: "a body with a word not allowed at its position .., ending early, with words over or sharing a word with another body"
unfoldable pub bodies_sound : List ℕ → Bool
bodies_sound img = all_read (bodies img) && each Functions img (apart_from_earlier img)

-- a refusal's number where its test fails, else what the tests after it give
unfoldable pub unless : Bool → ℕ → ℕ → ℕ
unless true n later = later
unless false n later = n

-- "Image writer": 5 to 10, in that order
unfoldable pub check_tables : (img bytes : List ℕ) → ℕ
check_tables img bytes =
    unless (header_sound img) 5
    (unless (references_sound img (length bytes)) 6
    (unless (types_sound img) 7
    (unless (shapes_sound img bytes) 8
    (unless (bodies_sound img) 9
    (unless (nesting_sound img) 10 0)))))

-- the check of an image that isn't run: 1, 2 and 5 to 10
unfoldable pub check_image : (img bytes : List ℕ) → ℕ
check_image img bytes = unless (image_fits img) 1 (unless (names_fit bytes) 2 (check_tables img bytes))

-- "1 to 10 are tested in that order"
unfoldable pub check : (img bytes : List ℕ) → (budget work : ℕ) → ℕ
check img bytes budget work =
    unless (image_fits img) 1
    (unless (names_fit bytes) 2
    (unless (budget_fits budget) 3
    (unless (work_fits img budget work) 4
    (check_tables img bytes))))

-- To unfold this one is to unfold every definition of this file: the rows compute by it.
unfoldable pub check_compute : Unit {0}
unfolding rows_pass each inside in_table in_table_or_none image_fits names_fit budget_fits work_fits table_fits tables_fit header_sound reference_sound table_sound references_sound all_below node_sound type_short type_sound types_sound among distinct shape_row_sound shape_sound shapes_sound apart apart_from_earlier all_read bodies_sound unless check_tables check_image check
check_compute = tt
