-- TraceText in the forms wire and JSON.
use Rattle.std.specs.Prelude.{ℕ, suc, Bool, true, false, List, [], ◌∷◌, ◌++◌, codes, decimal}
use Rattle.hex.specs.Hex.{encode_lower}
use Rattle.serde_json.specs.Data.{Data, Items, array, item, member, no_items, no_members, number, object, string, unsigned}
use Rattle.serde_json.specs.Written.{compact_text}
use Rattle.dtx_values.specs.declared.entry.Entry.{Entry}
use Rattle.dtx_values.specs.declared.entry.Entry.TheVariants.{Sent}
use Rattle.dtx_model.specs.Frames.{frame_of}
use Rattle.dtx_model.specs.Traces.{Placed}
use Rattle.dtx_model.specs.TraceText.{entry_text, place_text, trace_text}

-- behind a message that is sent, a space and the bytes of its frame in lower-case hexadecimal; behind every other entry nothing
abbrev pub frame_text : Entry → List ℕ
frame_text (Sent c d m) = codes " " ++ encode_lower (frame_of m)
frame_text x = []

-- what a line has before its end: its number, its place and its entry
abbrev pub line_words : ℕ → Placed → List ℕ
line_words n x = decimal n ++ codes " " ++ place_text x.0 ++ codes " " ++ entry_text x.1

-- a line in the form wire: as in the plain form, and where a message is sent its frame comes before LF
abbrev pub wire_line : ℕ → Placed → List ℕ
wire_line n x = line_words n x ++ frame_text x.1 ++ 10 ∷ []

-- the lines of these entries in the form wire, numbered from n
abbrev pub wire_lines_from : ℕ → List Placed → List ℕ
wire_lines_from n [] = []
wire_lines_from n (x ∷ xs) = wire_line n x ++ wire_lines_from (suc n) xs

-- the text of a trace in the form wire, oldest entry first, numbered from 1
unfoldable pub wire_text : List Placed → List ℕ
wire_text T = wire_lines_from 1 T

-- the text of a trace in the form wire, or in the plain form
abbrev pub lines_text : Bool → List Placed → List ℕ
lines_text true T = wire_text T
lines_text false T = trace_text T

-- an entry as a JSON object: its place (`at`), its number (`n`) and the entry in the plain form (`text`), in this order
abbrev pub object_of : ℕ → Placed → Data
object_of n x = object (member (codes "at") (string (place_text x.0)) (member (codes "n") (number (unsigned n)) (member (codes "text") (string (entry_text x.1)) no_members)))

-- the bytes of that object in JSON's compact form, written out: no character of a place or an entry is one that JSON escapes
abbrev pub object_text : ℕ → Placed → List ℕ
object_text n x = 123 ∷ 34 ∷ codes "at" ++ 34 ∷ 58 ∷ 34 ∷ place_text x.0 ++ 34 ∷ 44 ∷ 34 ∷ codes "n" ++ 34 ∷ 58 ∷ decimal n ++ 44 ∷ 34 ∷ codes "text" ++ 34 ∷ 58 ∷ 34 ∷ entry_text x.1 ++ 34 ∷ 125 ∷ []

-- the objects of these entries, numbered from n
abbrev pub objects_from : ℕ → List Placed → Items
objects_from n [] = no_items
objects_from n (x ∷ xs) = item (object_of n x) (objects_from (suc n) xs)

-- the text of a trace in the form JSON: one array of objects in JSON's compact form, oldest entry first, numbered from 1, and LF
unfoldable pub json_text : List Placed → List ℕ
json_text T = compact_text (array (objects_from 1 T)) ++ 10 ∷ []
