-- What is listed of a log.
use Rattle.std.specs.Prelude.{ℕ, ◌≡◌, Bool, IsTrue, List, ◌++◌, map, Ok, Option, Some}
use Rattle.std.specs.Option.{ForSome}
use Rattle.outside.specs.Disk.{AreWithin}
use Rattle.dtx_model.specs.Log.{CommitRecord, log_has, slots_of}
use Rattle.coordinator_log.specs.Slots.{formed, open_records}
use Rattle.log_listing.specs.Listing.{listing_of}
use Rattle.program_io.specs.Transfer.{IsPartWritten}

-- There are slots of a log, and this holds of the text of their listing. On an honest disk they are those of the bytes that a read gives: these are a log, and each of its slots is one of these.
pub record HasListing (honest : Bool) (seen : List ℕ) (holds : List ℕ → Type 0) : Type 0 where
  pub slots : List (Option CommitRecord)
  pub log : IsTrue honest → log_has seen ≡ Ok (open_records slots)
  pub read : IsTrue honest → slots_of seen ≡ map formed slots
  pub gained : holds (listing_of slots)

-- the sink, where it tells what was written, gained exactly the listing of the log
abbrev pub IsListed : Bool → List ℕ → (before after : Option (List ℕ)) → Type 0
IsListed honest seen before after = HasListing honest seen (λ text. ForSome before (λ w. after ≡ Some (w ++ text)))

-- the same, but the sink gained a part of the listing and not all of it
abbrev pub IsListedInPart : Bool → List ℕ → (before after : Option (List ℕ)) → Type 0
IsListedInPart honest seen before after = HasListing honest seen (λ text. ForSome before (λ w. IsPartWritten w text after))

-- what the disk holds is what it held: a read gives the same bytes, and a crash leaves nothing that it couldn't leave before
pub record HoldsSame {D : Type 0} (seen : D → List ℕ) (image : D → List ℕ → Type 0) (before after : D) : Type 0 where
  pub same : seen after ≡ seen before
  pub within : AreWithin (image before) (image after)
