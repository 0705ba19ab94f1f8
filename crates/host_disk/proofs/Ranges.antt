-- What a write makes of what a crash may leave.
use Rattle.std.proofs.Common.{◌≡◌, ◌∙◌, ◌+◌, ◌-◌, ◌<◌, ◌≤◌, ◌++◌, ◌∷◌, ◌||◌, [], false, ℕ, List, ap, arith, drop, get_or, inl, inr, leb, length, length-append, ltb, refl, sym, take}
use Rattle.std.proofs.lemmas.Bool.{and_left, and_right, cases_lt, le-ltb, lt-leb, or_from}
use Rattle.std.proofs.lemmas.List.{get_or-append_right, get_or-drop, get_or-take, get_or_append_left, length-drop, length-take}
use Rattle.std.proofs.lemmas.List.Folds.{list_any-append}
use Rattle.outside.specs.Disk.{Follows, IsTorn, overwritten}
use Rattle.outside.proofs.Sheets.{length-overwritten}
use Rattle.outside.proofs.Writing.{IsTorn-overwritten}
use Rattle.host_disk.specs.declared.host_disk.Range.{Range}
use Rattle.host_disk.specs.HostState.{HostState, MayBeLeft, is_in, is_written}

-- a byte before the range of a write stays
get_or-overwritten_before : (old bytes : List ℕ) (at i : ℕ) → at ≤ length old → i < at → get_or (overwritten old at bytes) i 0 ≡ get_or old i 0
get_or-overwritten_before old bytes at i room before =
    let front : length (take at old) ≡ at = omega (arith, length-take at old) in
    let reach : i < length (take at old ++ bytes) = omega (arith, length-append (take at old) bytes) in
    get_or_append_left (take at old ++ bytes) (drop (at + length bytes) old) 0 i reach ∙ get_or_append_left (take at old) bytes 0 i (omega arith) ∙ get_or-take at old i 0 before

-- a byte in the range is the one that was written
get_or-overwritten_inside : (old bytes : List ℕ) (at i : ℕ) → at ≤ length old → at ≤ i → i < at + length bytes → get_or (overwritten old at bytes) i 0 ≡ get_or bytes (i - at) 0
get_or-overwritten_inside old bytes at i room from before =
    let front : length (take at old) ≡ at = omega (arith, length-take at old) in
    let reach : i < length (take at old ++ bytes) = omega (arith, length-append (take at old) bytes) in
    get_or_append_left (take at old ++ bytes) (drop (at + length bytes) old) 0 i reach ∙ get_or-append_right (take at old) bytes at i 0 front from

-- a byte behind the range stays
get_or-overwritten_behind : (old bytes : List ℕ) (at i : ℕ) → at + length bytes ≤ length old → at + length bytes ≤ i → get_or (overwritten old at bytes) i 0 ≡ get_or old i 0
get_or-overwritten_behind old bytes at i room behind =
    let front : length (take at old) ≡ at = omega (arith, length-take at old) in
    let reach : length (take at old ++ bytes) ≡ at + length bytes = omega (arith, length-append (take at old) bytes) in
    let place : (at + length bytes) + (i - (at + length bytes)) ≡ i = omega arith in
    get_or-append_right (take at old ++ bytes) (drop (at + length bytes) old) (at + length bytes) i 0 reach behind
    ∙ get_or-drop (at + length bytes) old (i - (at + length bytes)) 0
    ∙ ap (λ (k : ℕ). get_or old k 0) place

-- a place before a range isn't in it
is_in_before : (i : ℕ) (r : Range) → i < r.at → is_in i r ≡ false
is_in_before i r before = and_left (leb r.at i) (ltb i (r.at + r.count)) (lt-leb r.at i before)

-- nor is one behind it
is_in_behind : (i : ℕ) (r : Range) → r.at + r.count ≤ i → is_in i r ≡ false
is_in_behind i r behind = and_right (leb r.at i) (ltb i (r.at + r.count)) (le-ltb i (r.at + r.count) behind)

-- a place in none of the ranges, nor in one more
is_written-push : (ranges : List Range) (r : Range) (i : ℕ) → is_written ranges i ≡ false → is_in i r ≡ false → is_written (ranges ++ r ∷ []) i ≡ false
is_written-push ranges r i others last =
    list_any-append (is_in i) ranges (r ∷ []) ∙ or_from (is_written ranges i) (is_in i r || false) others (or_from (is_in i r) false last refl)

-- after a write a crash leaves what it may have left before, with any bytes in the range
pub Follows-written : (d e : HostState) (at n : ℕ) (from : List ℕ) → length from ≡ n → at + n ≤ length d.bytes → e.bytes ≡ overwritten d.bytes at from
    → e.written ≡ d.written ++ record { at = at; count = n } ∷ [] → Follows (IsTorn at n) (MayBeLeft d) (MayBeLeft e)
Follows-written d e at n from long room put written c left =
    let range : Range = record { at = at; count = n } in
    let part : List ℕ = take n (drop at d.bytes) in
    let before : List ℕ = overwritten c at part in
    let part_long : length part ≡ n = omega (arith, length-take n (drop at d.bytes), length-drop at d.bytes) in
    let same : length e.bytes ≡ length d.bytes = ap length put ∙ length-overwritten d.bytes from at (omega arith) in
    let whole : length c ≡ length d.bytes = left.long ∙ same in
    let inside : at + length part ≤ length c = omega arith in
    let torn : IsTorn at n c before = IsTorn-overwritten c at n part before refl part_long (omega arith) in
    let unwritten : (i : ℕ) → is_written d.written i ≡ false → is_in i range ≡ false → get_or c i 0 ≡ get_or e.bytes i 0 =
    λ i others last. left.same i (ap (λ (l : List Range). is_written l i) written ∙ is_written-push d.written range i others last) in
    let kept : (i : ℕ) → is_written d.written i ≡ false → get_or before i 0 ≡ get_or d.bytes i 0 =
    λ i others. elim (cases_lt i at) [
      | inl early ↦
          get_or-overwritten_before c part at i (omega arith) early
          ∙ unwritten i others (is_in_before i range early)
          ∙ ap (λ (l : List ℕ). get_or l i 0) put
          ∙ get_or-overwritten_before d.bytes from at i (omega arith) early
      | inr late ↦ elim (cases_lt i (at + n)) [
        | inl within ↦
            get_or-overwritten_inside c part at i (omega arith) late (omega arith)
            ∙ get_or-take n (drop at d.bytes) (i - at) 0 (omega arith)
            ∙ get_or-drop at d.bytes (i - at) 0
            ∙ ap (λ (k : ℕ). get_or d.bytes k 0) (let place : at + (i - at) ≡ i = omega arith in place)
        | inr behind ↦
            get_or-overwritten_behind c part at i inside (omega arith)
            ∙ unwritten i others (is_in_behind i range behind)
            ∙ ap (λ (l : List ℕ). get_or l i 0) put
            ∙ get_or-overwritten_behind d.bytes from at i (omega arith) (omega arith)
      ]
    ] in
    (before, record { long = torn.long ∙ whole; same = kept }, record { before = sym torn.before; after = sym torn.after; long = sym torn.long })
