-- What the call is given, and what is told of it. `tell` is what the source, the sink and the disk tell of themselves; `old` is how the call found the three, and `new` how it left them.
use Rattle.std.specs.Prelude.{ℕ, ◌≡◌, ◌≢◌, ◌≤◌, ◌⊎◌, Bool, List, Option}
use Rattle.outside.specs.Faults.{Rose}
use Rattle.program_io.specs.declared.exit.Exit.{Exit}
use Rattle.program_io.specs.declared.exit.Exit.TheVariants.{LogFault, Memory, ReadFault, WriteFault}
use Rattle.replay_runs.specs.LogRun.{MetNoFault}

-- a source, a sink and a disk
pub record Devices (S K D : Type 0) : Type 0 where
  pub source : S
  pub sink : K
  pub disk : D

abbrev pub devices : {S K D : Type 0} → S → K → D → Devices S K D
devices s k d = record { source = s; sink = k; disk = d }

-- What they tell: the bytes that are left to read, and those that were written, where they are told; whether the disk is honest, what a read of it gives, what a crash may leave, its length; and the count of faults of each.
pub record Telling (S K D : Type 0) : Type 1 where
  pub left : S → Option (List ℕ)
  pub source_faults : S → ℕ
  pub written : K → Option (List ℕ)
  pub sink_faults : K → ℕ
  pub honest : Bool
  pub seen : D → List ℕ
  pub image : D → List ℕ → Type 0
  pub size : D → ℕ
  pub disk_faults : D → ℕ

abbrev pub telling : {S K D : Type 0} → (S → Option (List ℕ)) → (S → ℕ) → (K → Option (List ℕ)) → (K → ℕ)
    → Bool → (D → List ℕ) → (D → List ℕ → Type 0) → (D → ℕ) → (D → ℕ) → Telling S K D
telling left source_faults written sink_faults honest seen image size disk_faults = record {
  left = left;
  source_faults = source_faults;
  written = written;
  sink_faults = sink_faults;
  honest = honest;
  seen = seen;
  image = image;
  size = size;
  disk_faults = disk_faults;
}

-- no count of faults rose
pub record MetNoFaults {S K D : Type 0} (tell : Telling S K D) (old new : Devices S K D) : Type 0 where
  pub source : MetNoFault tell.source_faults old.source new.source
  pub disk : MetNoFault tell.disk_faults old.disk new.disk
  pub sink : MetNoFault tell.sink_faults old.sink new.sink

-- Which faults an answer tells of. The disk's are those while the log was formatted or read for its listing. The answer that names a fault came where that count rose. Where it names none of the source's or the sink's, that count is as it was; where it names
-- none of the disk's, that count didn't fall.
pub record TellsFaults {S K D : Type 0} (tell : Telling S K D) (old : Devices S K D) (exit : Exit) (new : Devices S K D) : Type 0 where
  pub read_fault : exit ≡ ReadFault → Rose (tell.source_faults old.source) (tell.source_faults new.source)
  pub log_fault : exit ≡ LogFault → Rose (tell.disk_faults old.disk) (tell.disk_faults new.disk)
  pub write_fault : exit ≡ WriteFault → Rose (tell.sink_faults old.sink) (tell.sink_faults new.sink)
  pub read_smooth : exit ≢ ReadFault → tell.source_faults new.source ≡ tell.source_faults old.source
  pub log_grows : exit ≢ LogFault → tell.disk_faults old.disk ≤ tell.disk_faults new.disk
  pub write_smooth : exit ≢ WriteFault → tell.sink_faults new.sink ≡ tell.sink_faults old.sink

-- the answer is this one, but where the source met a fault or memory ran out
abbrev pub ComesUnlessUnread : Exit → Exit → Type 0
ComesUnlessUnread wanted exit = (exit ≡ wanted) ⊎ ((exit ≡ ReadFault) ⊎ (exit ≡ Memory))
