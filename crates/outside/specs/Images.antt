-- The three images of a disk that does with a crash as it is wished.
use Rattle.std.specs.Prelude.{◌≡◌, ℕ, List, ◌⊎◌, length, replicate}
use Rattle.dtx_values.specs.declared.Image.{Image}
use Rattle.dtx_values.specs.declared.Image.TheVariants.{Lose, Keep, Torn}
use Rattle.outside.specs.Disk.{overwritten}

-- the bytes of a disk: what a read gives, what was synced, and what is torn where it was written since
pub record Images : Type 0 where
  pub kept : List ℕ
  pub synced : List ℕ
  pub torn : List ℕ

-- as many bytes as n, each of which a crash has spoilt
abbrev pub spoilt : ℕ → List ℕ
spoilt n = replicate n 0xA5

-- after these bytes were written at this place
abbrev pub after_write : ℕ → List ℕ → Images → Images
after_write at bytes d = record {
  kept = overwritten d.kept at bytes;
  synced = d.synced;
  torn = overwritten d.torn at (spoilt (length bytes));
}

-- after a sync
abbrev pub after_sync : Images → Images
after_sync d = record { kept = d.kept; synced = d.kept; torn = d.kept }

-- the image that is wished
abbrev pub wished : Image → Images → List ℕ
wished Lose d = d.synced
wished Keep d = d.kept
wished Torn d = d.torn

-- after a crash with this wish
abbrev pub after_crash : Image → Images → Images
after_crash wish d = record { kept = wished wish d; synced = d.synced; torn = d.torn }

-- whatever is wished, a crash leaves what a read gives
pub record AreSame (d : Images) : Type 0 where
  pub synced : d.synced ≡ d.kept
  pub torn : d.torn ≡ d.kept

-- a crash may leave one of the three, as long as what a read gives
pub record IsOneOf (d : Images) (bytes : List ℕ) : Type 0 where
  pub one : (bytes ≡ d.kept) ⊎ ((bytes ≡ d.synced) ⊎ (bytes ≡ d.torn))
  pub long : length bytes ≡ length d.kept

-- a crash with this wish leaves the image that is wished
abbrev pub IsLeft : Image → Images → List ℕ → Type 0
IsLeft wish d bytes = (bytes ≡ wished wish d) × IsOneOf d bytes
