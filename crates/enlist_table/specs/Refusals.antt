-- What a table refuses, each exactly where.
use Rattle.std.specs.Prelude.{nat_le, Bool, ◌&&◌, not, List, length, Option, Some, None, if◌then◌else◌}
use Rattle.std.specs.List.{list_any}
use Rattle.dtx_values.specs.declared.limits.TheConstants.{DURABLES, ENLISTMENTS}
use Rattle.dtx_values.specs.declared.number.EnlNo.{EnlNo}
use Rattle.dtx_values.specs.declared.row.Row.{Row}
use Rattle.dtx_values.specs.declared.words.Class.{Class}
use Rattle.dtx_values.specs.Class.{is_volatile}
use Rattle.dtx_values.specs.Row.{is_lasting, is_of}
use Rattle.dtx_values.specs.Table.{has_row, how_many}
use Rattle.enlist_table.specs.declared.refusal.AddRefusal.{AddRefusal}
use Rattle.enlist_table.specs.declared.refusal.AddRefusal.TheVariants.{Twice, Many}
use Rattle.enlist_table.specs.declared.refusal.TableRefusal.{TableRefusal}
use Rattle.enlist_table.specs.declared.refusal.TableRefusal.TheVariants.{NoSuch, AlreadyThere}

-- the first cause for which an enlistment isn't added; none where it is
abbrev pub add_refusal : EnlNo → Class → List Row → Option AddRefusal
add_refusal e c xs =
    if has_row e.value xs then Some (Twice e)
    else if nat_le ENLISTMENTS (length xs) then Some (Many ENLISTMENTS)
    else if not (is_volatile c) && nat_le DURABLES (how_many is_lasting xs) then Some (Many DURABLES)
    else None

-- the first cause for which a row that may pass this test already isn't changed; none where it is
abbrev pub row_refusal : (Row → Bool) → EnlNo → List Row → Option TableRefusal
row_refusal there e xs =
    if not (has_row e.value xs) then Some (NoSuch e) else if list_any (λ x. is_of e.value x && there x) xs then Some (AlreadyThere e) else None
