-- The numbers of connections in tables.
use Rattle.std.specs.Prelude.{ℕ, ◌+◌, ◌*◌}
use Rattle.dtx_values.specs.declared.message.Conn.{Conn}
use Rattle.dtx_values.specs.declared.message.Conn.TheVariants.{Begin, Voter, Enl, Again}

-- b, v, and two for each enlistment: of its own connection, and of the one on which it came back
abbrev pub number_of : Conn → ℕ
number_of Begin = 0
number_of Voter = 1
number_of (Enl e) = 2 * e.value
number_of (Again e) = 2 * e.value + 1
