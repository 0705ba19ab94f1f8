-- A step that sends no BEGIN was written: its world holds, it was done whatever the log is, and the record that is kept names who said PREPARED.
use Rattle.std.proofs.Common.{◌≡◌, ◌∙◌, true, false, List, ap, refl, sym}
use Rattle.dtx_values.specs.declared.entry.Entry.{Entry}
use Rattle.dtx_values.specs.TxIds.{number_of}
use Rattle.dtx_values.specs.declared.tx_id.TxId.{TxId}
use Rattle.dtx_values.specs.declared.message.Conn.{Conn}
use Rattle.dtx_values.specs.declared.message.Dir.{Dir}
use Rattle.dtx_model.specs.declared.waiting.EnteredCall.{EnteredCall}
use Rattle.dtx_model.specs.Words.{onto}
use Rattle.dtx_model.specs.World.{World}
use Rattle.dtx_model.specs.Steps.{Step, Delivers, after, block_at, entered}
use Rattle.local_half.specs.Half.{Known}
use Rattle.coordinator_core.specs.Kept.{Kept as CoreKept}
use Rattle.tx_world.specs.AtLog.{Kept as LogKept}
use Rattle.tx_world.specs.Kept.{Kept, Whole}
use Rattle.tx_world.specs.OwnCalls.{DoesAlone}
use Rattle.tx_world.specs.Prepared.{NamesPrepared}
use Rattle.tx_world.specs.State.{TxState, sends_begin}
use Rattle.tx_world.proofs.Delivering.{Heard}
use Rattle.tx_world.proofs.Linking.{Linked}
use Rattle.tx_world.proofs.Living.{seen_as, whole_on}
use Rattle.tx_world.proofs.Naming.{named_alone}
use Rattle.tx_world.proofs.StillTied.{is_apart}
use Rattle.tx_world.proofs.Unlogged.{alone_done}
use Rattle.tx_world.proofs.Written.{Ready, silent_kept}

-- These calls and this history are left of the step, which isn't the log's and sends no BEGIN, and the halves know it.
pub record IsWritten (t : TxId) (w : World) (m : Step) (g : Known) (j : CoreKept) (ks : List EnteredCall) (n : List Entry) : Type 0 where
  pub kept : Kept t (after (number_of t) w m) g j
  pub apart : is_apart m ≡ true
  pub silent : false ≡ sends_begin (number_of t) w m
  pub calls : ks ≡ entered m w.calls
  pub past : n ≡ onto w.past (block_at (number_of t) w m)

-- a call whose block came onto the past, as it is put out or as its step has it
pub block_written : {t : TxId} {w : World} {m : Step} {g : Known} {j : CoreKept} {es : List Entry} {ks : List EnteredCall} {n : List Entry} → Linked t w m g j es → is_apart m ≡ true → ks ≡ entered m w.calls
    → n ≡ onto w.past (block_at (number_of t) w m) → IsWritten t w m g j ks n
block_written l apart calls past = record { kept = l.kept; apart = apart; silent = l.silent; calls = calls; past = past }

pub linked_written : {t : TxId} {w : World} {m : Step} {g : Known} {j : CoreKept} {es : List Entry} {ks : List EnteredCall} {n : List Entry} → Linked t w m g j es → is_apart m ≡ true → ks ≡ entered m w.calls
    → n ≡ onto w.past es → IsWritten t w m g j ks n
linked_written {t} {w} l apart calls past = block_written l apart calls (past ∙ ap (onto w.past) l.block)

-- a step of the local side whose entries came onto its past
pub ready_written : {t : TxId} {w : World} {m : Step} {g : Known} {k : CoreKept} {h xs : List Entry} {ks : List EnteredCall} {n : List Entry} → Ready t w m g k h xs → is_apart m ≡ true
    → false ≡ sends_begin (number_of t) w m → ks ≡ entered m w.calls → n ≡ onto h xs → IsWritten t w m g k ks n
ready_written r apart silent calls past = record { kept = r.kept; apart = apart; silent = silent; calls = calls; past = past ∙ r.past }

-- and what came on a connection, with what the side that heard it makes of it
pub heard_written : {t : TxId} {w : World} {c : Conn} {d : Dir} {g : Known} {j : CoreKept} {p xs : List Entry} {n : List Entry} → Heard t w c d g j p xs → n ≡ onto p xs → IsWritten t w (Delivers c d) g j w.calls n
heard_written r past = record { kept = r.kept; apart = refl; silent = sym r.silent; calls = refl; past = past ∙ r.past }

-- Then its world holds,
pub written_whole : {t : TxId} {w : World} {m : Step} {f g : Known} {k j : CoreKept} {x : LogKept} {ks : List EnteredCall} {n : List Entry} → IsWritten t w m g j ks n → Whole t w f k x
    → Whole t (record { calls = ks; past = n }) g j x
written_whole {t} {w} {m} s was = whole_on t w m was s.apart (silent_kept t w m s.kept s.silent s.calls s.past) s.past

-- the step was done,
pub written_done : {t : TxId} {w : World} {m : Step} {g : Known} {j : CoreKept} {ks : List EnteredCall} {n : List Entry} (x : LogKept) (old : TxState) → IsWritten t w m g j ks n → seen_as t w x ≡ old
    → DoesAlone m old (seen_as t (record { calls = ks; past = n }) x)
written_done {t} {w} {m} x old s was = alone_done t w m x old s.apart s.silent s.calls s.past was

-- and the record that is kept names who said PREPARED.
pub written_named : {t : TxId} {w : World} {m : Step} {f g : Known} {k j : CoreKept} {ks : List EnteredCall} {n : List Entry} (x : LogKept) (old : TxState) → IsWritten t w m g j ks n → Whole t w f k x
    → seen_as t w x ≡ old → NamesPrepared old → NamesPrepared (seen_as t (record { calls = ks; past = n }) x)
written_named {t} {w} {m} x old s whole was named = named_alone m x old whole (written_whole s whole) s.apart was (written_done x old s was) named
