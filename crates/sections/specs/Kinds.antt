-- The nine section kinds (01, "Framing" and "Values octets and the public copy"; the Manual's
-- names). A size or a number of the format stands here, and other definitions cite it by its name.
use Rattle.std.specs.Prelude.{ℕ, List, [], ◌∷◌, eqb, Option, Some, None}
use Rattle.octets.specs.Words.{pick}
use Rattle.sections.specs.declared.kinds.Extent.{Extent}
use Rattle.sections.specs.declared.kinds.Extent.TheVariants.{WholeSize, LeastPayload}
use Rattle.sections.specs.declared.kinds.Kind.{Kind}

-- the octets of a header: a length of four, and a number
abbrev pub header_size : ℕ
header_size = 5

-- the octets of a section 0, which has no header
abbrev pub indicator_size : ℕ
indicator_size = 16

-- and of a section 8
abbrev pub end_size : ℕ
end_size = 4

-- the least payload of each kind of which fields are decoded
abbrev pub least_identification : ℕ
least_identification = 16

abbrev pub least_grid : ℕ
least_grid = 9

abbrev pub least_product : ℕ
least_product = 4

abbrev pub least_representation : ℕ
least_representation = 6

abbrev pub least_bit_map : ℕ
least_bit_map = 1

-- the edition that is read
abbrev pub grib_edition : ℕ
grib_edition = 2

-- "GRIB", with which section 0 starts
abbrev pub grib_mark : List ℕ
grib_mark = 71 ∷ 82 ∷ 73 ∷ 66 ∷ []

-- "7777", which is section 8
abbrev pub end_mark : List ℕ
end_mark = 55 ∷ 55 ∷ 55 ∷ 55 ∷ []

-- a row: number, size, and the octet from which on a section carries values, counted from 1
abbrev pub kind : ℕ → Extent → Option ℕ → Kind
kind number extent values = record { number = number; extent = extent; values = values }

-- 0, the indicator section: no header
abbrev pub indicator : Kind
indicator = kind 0 (WholeSize indicator_size) None

-- 1, the identification section
abbrev pub identification : Kind
identification = kind 1 (LeastPayload least_identification) None

-- 2, the local use section
abbrev pub local_use : Kind
local_use = kind 2 (LeastPayload 0) (Some 6)

-- 3, the grid definition section
abbrev pub grid_definition : Kind
grid_definition = kind 3 (LeastPayload least_grid) None

-- 4, the product definition section
abbrev pub prod_definition : Kind
prod_definition = kind 4 (LeastPayload least_product) None

-- 5, the data representation section: its first 11 octets are no values
abbrev pub repr_definition : Kind
repr_definition = kind 5 (LeastPayload least_representation) (Some 12)

-- 6, the bit-map section: its first 6 octets are no values
abbrev pub bit_map : Kind
bit_map = kind 6 (LeastPayload least_bit_map) (Some 7)

-- 7, the data section
abbrev pub data_section : Kind
data_section = kind 7 (LeastPayload 0) (Some 6)

-- 8, the end section: no header
abbrev pub end_section : Kind
end_section = kind 8 (WholeSize end_size) None

-- all of them
unfoldable pub kinds : List Kind
kinds =
    indicator ∷ identification ∷ local_use ∷ grid_definition ∷ prod_definition ∷ repr_definition
    ∷ bit_map ∷ data_section ∷ end_section ∷ []

-- the kind of a list that has the number
abbrev pub kind_among : ℕ → List Kind → Option Kind
kind_among n [] = None
kind_among n (k ∷ more) = let later = kind_among n more in pick (eqb n k.number) (Some k) later

-- the kind that has the number
unfoldable pub kind_of : ℕ → Option Kind
kind_of n = kind_among n kinds

-- the least payload of a size, if there is a header
abbrev pub least_of : Extent → Option ℕ
least_of (LeastPayload octets) = Some octets
least_of (WholeSize octets) = None

-- the same of what may be a kind
abbrev pub least_in : Option Kind → Option ℕ
least_in (Some k) = least_of k.extent
least_in None = None

-- the least payload of the sections with the number, if they have a header
unfoldable pub least_payload_of : ℕ → Option ℕ
least_payload_of n = least_in (kind_of n)

abbrev pub values_in : Option Kind → Option ℕ
values_in (Some k) = k.values
values_in None = None

-- where the sections with the number carry values
unfoldable pub values_of : ℕ → Option ℕ
values_of n = values_in (kind_of n)
