-- What the host is asked to do in its file.
use Rattle.std.specs.Prelude.{ℕ, zero, suc, ◌≡◌, ◌<◌, ◌+◌, Bool, true, false, List, [], Option, None, length, slice_get}
use Rattle.std.specs.Option.{option_map}
use Rattle.outside.specs.Disk.{AreWithin}
use Rattle.host_disk.specs.HostState.{MayBeLeft}
use Rattle.host_disk.specs.Order.{Order, order_of}
use Rattle.host_disk.specs.declared.request.Request.{Request}
use Rattle.host_manager.specs.Host.{HostView, asked, faults}

-- All that was asked for is done, and forgotten: the disk's bytes and the rest are as they were, and a crash leaves nothing that it couldn't leave before.
pub record IsDone (old new : HostView) : Type 0 where
  pub quiet : asked new ≡ []
  pub bytes : new.manager.log.disk.bytes ≡ old.manager.log.disk.bytes
  pub images : AreWithin (MayBeLeft old.manager.log.disk) (MayBeLeft new.manager.log.disk)
  pub smooth : faults new.manager.log.disk ≡ faults old.manager.log.disk
  pub rest : new ≡ record old { given = 0; manager = record old.manager { log = record old.manager.log { disk = new.manager.log.disk } } }

-- The next request is given, in the order in which they were asked for; or each was given, and all are done.
abbrev pub Asks : HostView → HostView → Bool → Type 0
Asks old new true = (old.given < length (asked old)) × (new ≡ record old { given = old.given + 1 })
Asks old new false = (old.given ≡ length (asked old)) × IsDone old new

-- the request at this place of those that were given, from 1
abbrev pub given_at : ℕ → List Order → Option Order
given_at zero orders = None
given_at (suc n) orders = slice_get orders n

-- what was given last
abbrev pub IsGiven : HostView → Option Request → Type 0
IsGiven m r = option_map order_of r ≡ given_at m.given (asked m)
