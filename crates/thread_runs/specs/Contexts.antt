-- What the scope lines of a script write at the contexts of their actors.
use Rattle.std.specs.Prelude.{◌-◌, ◌≡◌, [], List, slice_index_or}
use Rattle.dtx_values.specs.declared.entry.Entry.{Entry}
use Rattle.dtx_values.specs.declared.number.ActorNo.{ActorNo}
use Rattle.dtx_values.specs.declared.script.Line.{Line}
use Rattle.dtx_model.specs.Contexts.{context}
use Rattle.dtx_model.specs.Words.{past_of}

-- of lists by actor, that of this one
abbrev pub entries_of : ActorNo → List (List Entry) → List Entry
entries_of a ess = slice_index_or ess (a.value - 1) []

-- the lists, by actor, oldest entry first, are what these lines, which stand newest first, write at each actor's context
abbrev pub AreWritten : List Line → List (List Entry) → Type 0
AreWritten ls ess = (a : ActorNo) → past_of (entries_of a ess) ≡ context a.value ls

-- The lists, by actor, oldest entry first, are what the script's lines write at each actor's context.
abbrev pub AreContexts : List Line → List (List Entry) → Type 0
AreContexts s ess = AreWritten (past_of s) ess
