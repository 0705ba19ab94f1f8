-- What the clones refuse, each exactly where.
use Rattle.std.specs.Prelude.{nat_le, Bool, true, false, not, List, length, Option, Some, None, if◌then◌else◌}
use Rattle.std.specs.List.{list_any}
use Rattle.dtx_values.specs.declared.limits.TheConstants.{CLONES}
use Rattle.dtx_values.specs.declared.number.CloneNo.{CloneNo}
use Rattle.dtx_values.specs.declared.row.CloneRow.{CloneRow}
use Rattle.dtx_values.specs.declared.words.CloneKind.{CloneKind}
use Rattle.dtx_values.specs.declared.words.CloneKind.TheVariants.{Block, Rollback}
use Rattle.dtx_values.specs.Clones.{is_clone, is_complete_clone}
use Rattle.dependent_clones.specs.declared.refusal.CloneRefusal.{CloneRefusal}
use Rattle.dependent_clones.specs.declared.refusal.CloneRefusal.TheVariants.{TooLate, Twice, Many, NoSuch, Already}

abbrev pub kind_of : Bool → CloneKind
kind_of true = Block
kind_of false = Rollback

-- the first cause for which a clone isn't made; none where it is
abbrev pub clone_refusal : CloneNo → Bool → List CloneRow → Option CloneRefusal
clone_refusal c commit_asked rs =
    if commit_asked then Some TooLate else if list_any (is_clone c.value) rs then Some (Twice c) else if nat_le CLONES (length rs) then Some (Many CLONES) else None

-- the first cause for which a clone isn't completed; none where it is
abbrev pub complete_refusal : CloneNo → List CloneRow → Option CloneRefusal
complete_refusal c rs =
    if not (list_any (is_clone c.value) rs) then Some (NoSuch c) else if list_any (is_complete_clone c.value) rs then Some (Already c) else None
