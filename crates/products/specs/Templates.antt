-- Product definition templates: which numbers are supported, and where a template holds its
-- generating process, its time and its surfaces. Each index counts octets from the template's first
-- one (payload octet 4), as in the crate's sections.rs, whose ranges stand here in their order.
use Rattle.std.specs.Prelude.{ℕ, Bool, true, false, List, [], ◌∷◌, Option, Some, None}
use Rattle.products.specs.Ranges.{Range, ◌to◌is◌, lookup}

-- WMO Code table 4.0, version 30, without reserved rows and without 65535
unfoldable pub supported_templates : List (Range Bool)
supported_templates =
    (0 to 15 is true)
    ∷ (20 to 20 is true)
    ∷ (30 to 35 is true)
    ∷ (40 to 49 is true)
    ∷ (51 to 51 is true)
    ∷ (53 to 63 is true)
    ∷ (67 to 68 is true)
    ∷ (70 to 73 is true)
    ∷ (76 to 88 is true)
    ∷ (91 to 98 is true)
    ∷ (254 to 254 is true)
    ∷ (1000 to 1002 is true)
    ∷ (1100 to 1101 is true)
    ∷ []

-- is the template number supported
unfoldable pub is_supported : ℕ → Bool
is_supported n = lookup false n supported_templates

-- generating_process
unfoldable pub processes : List (Range (Option ℕ))
processes =
    (0 to 39 is Some 2)
    ∷ (40 to 43 is Some 4)
    ∷ (44 to 46 is Some 15)
    ∷ (47 to 47 is Some 2)
    ∷ (48 to 49 is Some 26)
    ∷ (51 to 51 is Some 2)
    ∷ (55 to 56 is Some 8)
    ∷ (59 to 59 is Some 8)
    ∷ (60 to 61 is Some 2)
    ∷ (62 to 63 is Some 8)
    ∷ (70 to 73 is Some 7)
    ∷ (76 to 79 is Some 5)
    ∷ (80 to 81 is Some 27)
    ∷ (82 to 82 is Some 16)
    ∷ (83 to 83 is Some 2)
    ∷ (84 to 84 is Some 16)
    ∷ (85 to 85 is Some 15)
    ∷ (86 to 91 is Some 2)
    ∷ (254 to 254 is Some 2)
    ∷ (1000 to 1101 is Some 2)
    ∷ []

-- where the generating process stands
unfoldable pub process_index : ℕ → Option ℕ
process_index n = lookup None n processes

-- forecast_time
unfoldable pub times : List (Range (Option ℕ))
times =
    (0 to 15 is Some 8)
    ∷ (32 to 34 is Some 8)
    ∷ (40 to 43 is Some 10)
    ∷ (44 to 47 is Some 21)
    ∷ (48 to 49 is Some 32)
    ∷ (51 to 51 is Some 8)
    ∷ (55 to 56 is Some 14)
    ∷ (59 to 59 is Some 14)
    ∷ (60 to 61 is Some 8)
    ∷ (62 to 63 is Some 14)
    ∷ (70 to 73 is Some 13)
    ∷ (76 to 79 is Some 11)
    ∷ (80 to 81 is Some 33)
    ∷ (82 to 84 is Some 22)
    ∷ (85 to 85 is Some 21)
    ∷ (86 to 87 is Some 8)
    ∷ (88 to 88 is Some 26)
    ∷ (91 to 91 is Some 8)
    ∷ (1000 to 1101 is Some 8)
    ∷ []

-- where the unit of time stands, with the time behind it
unfoldable pub time_index : ℕ → Option ℕ
time_index n = lookup None n times

-- fixed_surfaces
unfoldable pub surfaces : List (Range (Option ℕ))
surfaces =
    (0 to 15 is Some 13)
    ∷ (40 to 43 is Some 15)
    ∷ (44 to 44 is Some 24)
    ∷ (45 to 47 is Some 26)
    ∷ (48 to 49 is Some 37)
    ∷ (51 to 51 is Some 13)
    ∷ (55 to 56 is Some 19)
    ∷ (59 to 59 is Some 19)
    ∷ (60 to 61 is Some 13)
    ∷ (62 to 63 is Some 19)
    ∷ (70 to 73 is Some 18)
    ∷ (76 to 79 is Some 16)
    ∷ (80 to 81 is Some 38)
    ∷ (82 to 84 is Some 27)
    ∷ (85 to 85 is Some 26)
    ∷ (86 to 87 is Some 13)
    ∷ (88 to 88 is Some 5)
    ∷ (91 to 91 is Some 13)
    ∷ (1100 to 1101 is Some 13)
    ∷ []

-- where the first surface stands, with the second behind it
unfoldable pub surfaces_index : ℕ → Option ℕ
surfaces_index n = lookup None n surfaces
