-- Who is in the worked histories.
use Rattle.std.proofs.Common.{ℕ, lit≤}
use Rattle.dtx_values.specs.declared.number.ActorNo.{ActorNo}
use Rattle.dtx_values.specs.declared.number.EnlNo.{EnlNo}
use Rattle.dtx_values.specs.declared.number.RmNo.{RmNo}
use Rattle.dtx_values.specs.declared.number.TxNo.{TxNo}
use Rattle.dtx_values.specs.declared.script.Body.{Body}
use Rattle.dtx_values.specs.declared.script.Line.{Line}
use Rattle.dtx_model.specs.Promotes.{identifier_of}

-- the transaction, and the identifier that its promotion gives it
abbrev pub t1 : TxNo
t1 = record { value = 1; in_range = (lit≤ tt, lit≤ tt) }

abbrev pub id1 : ℕ
id1 = identifier_of 1

-- actors: the threads of the application
abbrev pub a1 : ActorNo
a1 = record { value = 1; in_range = (lit≤ tt, lit≤ tt) }

abbrev pub a2 : ActorNo
a2 = record { value = 2; in_range = (lit≤ tt, lit≤ tt) }

abbrev pub a3 : ActorNo
a3 = record { value = 3; in_range = (lit≤ tt, lit≤ tt) }

abbrev pub a4 : ActorNo
a4 = record { value = 4; in_range = (lit≤ tt, lit≤ tt) }

-- enlistments
abbrev pub e1 : EnlNo
e1 = record { value = 1; in_range = (lit≤ tt, lit≤ tt) }

abbrev pub e2 : EnlNo
e2 = record { value = 2; in_range = (lit≤ tt, lit≤ tt) }

abbrev pub e3 : EnlNo
e3 = record { value = 3; in_range = (lit≤ tt, lit≤ tt) }

-- resource managers
abbrev pub r1 : RmNo
r1 = record { value = 1; in_range = (lit≤ tt, lit≤ tt) }

abbrev pub r2 : RmNo
r2 = record { value = 2; in_range = (lit≤ tt, lit≤ tt) }

abbrev pub r3 : RmNo
r3 = record { value = 3; in_range = (lit≤ tt, lit≤ tt) }

-- a line of a script: who does what
abbrev pub says : ActorNo → Body → Line
says a b = record { actor = a; body = b }
