-- `supported` says what its table of ranges says: the tests before each return leave an interval, on which
-- the table has one value.
use mathlib.Core.Path.{refl}
use mathlib.Core.Bool.{false}
use native.Mathlib.Omega.{arith}
use Rattle.products.specs.Templates.{is_supported, supported_templates}
use Rattle.products.proofs.Ranges.{Tabled, on, around}
use Rattle.products.proofs.templates.supported.Goals as goal

table : Tabled false supported_templates is_supported
unfolding is_supported
table = record { same = λ n. refl }

pub returns-in-20 : goal.returns-in-20
unfolding supported_templates
returns-in-20 c = on table 20 20 refl (omega arith) (omega arith)

pub returns-in-51 : goal.returns-in-51
unfolding supported_templates
returns-in-51 c = on table 51 51 refl (omega arith) (omega arith)

pub returns-in-254 : goal.returns-in-254
unfolding supported_templates
returns-in-254 c = on table 254 254 refl (omega arith) (omega arith)

pub returns-in-0-to-15 : goal.returns-in-0-to-15
unfolding supported_templates
returns-in-0-to-15 c = on table 0 15 refl (omega arith) (omega arith)

pub returns-in-30-to-35 : goal.returns-in-30-to-35
unfolding supported_templates
returns-in-30-to-35 c = on table 30 35 refl (omega arith) (omega arith)

pub returns-in-40-to-49 : goal.returns-in-40-to-49
unfolding supported_templates
returns-in-40-to-49 c = on table 40 49 refl (omega arith) (omega arith)

pub returns-in-53-to-63 : goal.returns-in-53-to-63
unfolding supported_templates
returns-in-53-to-63 c = on table 53 63 refl (omega arith) (omega arith)

pub returns-in-67-to-68 : goal.returns-in-67-to-68
unfolding supported_templates
returns-in-67-to-68 c = on table 67 68 refl (omega arith) (omega arith)

pub returns-in-70-to-73 : goal.returns-in-70-to-73
unfolding supported_templates
returns-in-70-to-73 c = on table 70 73 refl (omega arith) (omega arith)

pub returns-in-76-to-88 : goal.returns-in-76-to-88
unfolding supported_templates
returns-in-76-to-88 c = on table 76 88 refl (omega arith) (omega arith)

pub returns-in-91-to-98 : goal.returns-in-91-to-98
unfolding supported_templates
returns-in-91-to-98 c = on table 91 98 refl (omega arith) (omega arith)

pub returns-in-1000-to-1002 : goal.returns-in-1000-to-1002
unfolding supported_templates
returns-in-1000-to-1002 c = on table 1000 1002 refl (omega arith) (omega arith)

pub returns-in-1100-to-1101 : goal.returns-in-1100-to-1101
unfolding supported_templates
returns-in-1100-to-1101 c = on table 1100 1101 refl (omega arith) (omega arith)

pub returns-in_default : goal.returns-in_default
unfolding supported_templates
returns-in_default c = around table 16 20 29 refl refl (omega arith) (search) (omega arith)

pub returns-in_default-2 : goal.returns-in_default-2
unfolding supported_templates
returns-in_default-2 c = on table 36 39 refl (omega arith) (omega arith)

pub returns-in_default-3 : goal.returns-in_default-3
unfolding supported_templates
returns-in_default-3 c = around table 50 51 52 refl refl (omega arith) (search) (omega arith)

pub returns-in_default-4 : goal.returns-in_default-4
unfolding supported_templates
returns-in_default-4 c = on table 64 66 refl (omega arith) (omega arith)

pub returns-in_default-5 : goal.returns-in_default-5
unfolding supported_templates
returns-in_default-5 c = on table 69 69 refl (omega arith) (omega arith)

pub returns-in_default-6 : goal.returns-in_default-6
unfolding supported_templates
returns-in_default-6 c = on table 74 75 refl (omega arith) (omega arith)

pub returns-in_default-7 : goal.returns-in_default-7
unfolding supported_templates
returns-in_default-7 c = on table 89 90 refl (omega arith) (omega arith)

pub returns-in_default-8 : goal.returns-in_default-8
unfolding supported_templates
returns-in_default-8 c = around table 99 254 999 refl refl (omega arith) (search) (omega arith)

pub returns-in_default-9 : goal.returns-in_default-9
unfolding supported_templates
returns-in_default-9 c = on table 1003 1099 refl (omega arith) (omega arith)

pub returns-in_default-10 : goal.returns-in_default-10
unfolding supported_templates
returns-in_default-10 c = on table 1102 65535 refl (omega arith) (omega arith)
