-- Bytes are one input, or are refused at one line for one cause.
use Rattle.std.proofs.Common.{◌≡◌, ◌≢◌, ℕ, ◌+◌, ◌≤◌, true, List, [], ◌∷◌, ◌++◌, length, refl, ap, sym, subst, ◌∙◌, arith, length-append, Some}
use Rattle.dtx_values.specs.declared.limits.TheConstants.{SCRIPT_BYTES}
use Rattle.dtx_values.specs.declared.script.BadCause.{BadCause}
use Rattle.dtx_values.specs.declared.script.Line.{Line}
use Rattle.dtx_model.specs.Words.{past_of}
use Rattle.dtx_model.specs.Caused.{Of}
use Rattle.dtx_model.specs.Grammar.{IsScript, script_text}
use Rattle.script_text.proofs.OneReading.{one_script, script_or_bad}
use Rattle.heard_notes.specs.Puts.{put_fault}
use Rattle.heard_notes.specs.declared.put.Put.{Put}
use Rattle.put_lines.specs.Input.{AtFront, AtPut, HasFront, InScript, IsBadLineAfter, IsRefused, NoScript, ReadsInput, are_good, front_text, named_in}
use Rattle.put_lines.proofs.Goods.{first_bad, none_bad}
use Rattle.put_lines.proofs.SameBodies.{fits_within, one_bad_line, reach_whole}
use Rattle.put_lines.proofs.SameFronts.{AtBad, AtEnd, AtScript, Stop, Stops, one_front, stops_front, stops_puts}

-- what an input begins with
has_front : (most : ℕ) (o : Of) (b : List ℕ) (ps : List Put) (s : List Line) → ReadsInput most o b ps s → HasFront b ps (script_text s)
has_front most o b ps s h = record {
  bytes = h.bytes;
  in_range = h.in_range;
  within = omega (arith, h.within, ap length h.bytes, length-append (front_text ps) (script_text s));
}

-- what follows two fronts
abbrev after_script : Stop → List ℕ
after_script (AtScript r) = r
after_script z = []

-- two fronts of the same bytes are one
same_front : (b : List ℕ) (ps qs : List Put) (r q : List ℕ) → HasFront b ps r → HasFront b qs q → (ps ≡ qs) × (r ≡ q)
same_front b ps qs r q h k =
    let same = one_front 0 b ps qs (AtScript r) (AtScript q) (stops_front b ps r h) (stops_front b qs q k) in
    (same.0, ap after_script same.1)

-- two scripts with the same bytes are one
same_script : (s r : List Line) → IsScript s → IsScript r → script_text s ≡ script_text r → s ≡ r
same_script s r h k e = one_script (script_text s) s r (record { bytes = refl; script = h }) (record { bytes = e; script = k })

-- bytes are one input at most
pub one_input : (most : ℕ) (o : Of) (b : List ℕ) (ps qs : List Put) (s r : List Line) → ReadsInput most o b ps s → ReadsInput most o b qs r → (ps ≡ qs) × (s ≡ r)
one_input most o b ps qs s r h k =
    let same = same_front b ps qs (script_text s) (script_text r) (has_front most o b ps s h) (has_front most o b qs r k) in
    (same.0, same_script s r h.script k.script same.1)

-- a script that is within the most bytes has no bad line
script_or_line : (b : List ℕ) (ps : List Put) (s before : List Line) (rest : List ℕ) (c : BadCause) → HasFront b ps (script_text s) → length b ≤ SCRIPT_BYTES → IsScript s → IsScript before → rest ≢ []
    → script_text s ≡ script_text before ++ rest → IsBadLineAfter (length (front_text ps)) before rest c → ⊥
script_or_line b ps s before rest c h w hs hb some e bad =
    let whole : length b ≡ length (front_text ps) + length (script_text s) = ap length h.bytes ∙ length-append (front_text ps) (script_text s) in
    let near : length (front_text ps) + length (script_text before) + _ ≤ SCRIPT_BYTES = omega (arith, whole, ap length e, length-append (script_text before) rest, reach_whole rest) in
    let alone = fits_within (length (front_text ps)) before rest c near bad in
    script_or_bad (script_text s) s (length before + 1) c (record { bytes = refl; script = hs })
    (record { before = before; rest = rest; bytes = e; script = hb; number = refl; left = some; cause = alone })

-- what stops the puts of bytes that are refused
abbrev stop_of : (most : ℕ) (o : Of) (b : List ℕ) (n : ℕ) (c : BadCause) → IsRefused most o b n c → (ps : List Put) × (z : Stop) × Stops 0 b ps z
stop_of most o b n c (AtFront ps rest h some e f) = (ps, AtBad c, stops_puts b ps rest (AtBad c) h (some, f))
stop_of most o b n c (NoScript ps h e f) = (ps, AtEnd, stops_puts b ps [] AtEnd h refl)
stop_of most o b n c (InScript ps before rest h hs w some e bad) = (ps, AtScript (script_text before ++ rest), stops_front b ps (script_text before ++ rest) h)
stop_of most o b n c (AtPut before p after s h w hs e good f) = (before ++ p ∷ after, AtScript (script_text s), stops_front b (before ++ p ∷ after) (script_text s) h)

-- two refusals stop the puts at the same place
same_stop : (most : ℕ) (o : Of) (b : List ℕ) (n m : ℕ) (c d : BadCause) (x : IsRefused most o b n c) (y : IsRefused most o b m d)
    → ((stop_of most o b n c x).0 ≡ (stop_of most o b m d y).0) × ((stop_of most o b n c x).1 ≡ (stop_of most o b m d y).1)
same_stop most o b n m c d x y =
    let i = stop_of most o b n c x in
    let j = stop_of most o b m d y in
    one_front 0 b i.0 j.0 i.1 j.1 i.2 j.2

-- good puts and bad ones
good_or_bad : (most : ℕ) (o : Of) (s r : List Line) (ps before : List Put) (p : Put) (after : List Put) (c : BadCause) → s ≡ r → ps ≡ before ++ p ∷ after → are_good most s o [] ps ≡ true
    → put_fault most (named_in r o p) (past_of before) p ≡ Some c → ⊥
good_or_bad most o s r ps before p after c e f g k =
    none_bad most s o before p after c (ap (are_good most s o []) (sym f) ∙ g) (ap (λ (x : List Line). put_fault most (named_in x o p) (past_of before) p) e ∙ k)

-- an input isn't refused
pub input_or_refused : (most : ℕ) (o : Of) (b : List ℕ) (ps : List Put) (s : List Line) (n : ℕ) (c : BadCause) → ReadsInput most o b ps s → IsRefused most o b n c → ⊥
input_or_refused most o b ps s n c h (AtFront qs rest k some e f) =
    let same = one_front 0 b ps qs (AtScript (script_text s)) (AtBad c) (stops_front b ps (script_text s) (has_front most o b ps s h)) (stops_puts b qs rest (AtBad c) k (some, f)) in
    cc same.1
input_or_refused most o b ps s n c h (NoScript qs k e f) =
    let same = one_front 0 b ps qs (AtScript (script_text s)) AtEnd (stops_front b ps (script_text s) (has_front most o b ps s h)) (stops_puts b qs [] AtEnd k refl) in
    cc same.1
input_or_refused most o b ps s n c h (InScript qs before rest k hs w some e bad) =
    let same = same_front b qs ps (script_text before ++ rest) (script_text s) k (has_front most o b ps s h) in
    script_or_line b ps s before rest c (has_front most o b ps s h) h.within h.script hs some (sym same.1) (subst (λ (x : List Put). IsBadLineAfter (length (front_text x)) before rest c) same.0 bad)
input_or_refused most o b ps s n c h (AtPut before p after r k w hr e good f) =
    let same = same_front b ps (before ++ p ∷ after) (script_text s) (script_text r) (has_front most o b ps s h) k in
    good_or_bad most o s r ps before p after c (same_script s r h.script hr same.1) same.0 h.good f

-- a refusal in the script and one at a put don't go together
line_or_put : (b : List ℕ) (ps qs : List Put) (s before : List Line) (rest : List ℕ) (c : BadCause) → HasFront b ps (script_text before ++ rest) → HasFront b qs (script_text s) → length b ≤ SCRIPT_BYTES → IsScript s
    → IsScript before → rest ≢ [] → IsBadLineAfter (length (front_text ps)) before rest c → ⊥
line_or_put b ps qs s before rest c h k w hs hb some bad =
    let same = same_front b ps qs (script_text before ++ rest) (script_text s) h k in
    script_or_line b qs s before rest c k w hs hb some (sym same.1) (subst (λ (x : List Put). IsBadLineAfter (length (front_text x)) before rest c) same.0 bad)

-- bytes are refused at one line, for one cause
pub one_refusal : (most : ℕ) (o : Of) (b : List ℕ) (n m : ℕ) (c d : BadCause) → IsRefused most o b n c → IsRefused most o b m d → (n ≡ m) × (c ≡ d)
one_refusal most o b n m c d (AtFront ps rest h some e f) (AtFront qs r k any g l) =
    let same = same_stop most o b n m c d (AtFront ps rest h some e f) (AtFront qs r k any g l) in
    let puts : ps ≡ qs = same.0 in
    let stops : AtBad c ≡ AtBad d = same.1 in
    (omega (arith, ap length puts), cc stops)
one_refusal most o b n m c d (NoScript ps h e f) (NoScript qs k g l) =
    let same = same_stop most o b n m c d (NoScript ps h e f) (NoScript qs k g l) in
    let puts : ps ≡ qs = same.0 in
    (omega (arith, ap length puts), f ∙ sym l)
one_refusal most o b n m c d (InScript ps before rest h hs w some e bad) (InScript qs after r k hr v any g worse) =
    let same = same_front b ps qs (script_text before ++ rest) (script_text after ++ r) h k in
    let moved = subst (λ (x : List Put). IsBadLineAfter (length (front_text x)) before rest c) same.0 bad in
    let long = ap (λ (x : List Put). length (front_text x)) same.0 in
    let one = one_bad_line (length (front_text qs)) before after rest r c d hs hr (omega (arith, w, long)) v same.1 moved worse in
    let puts : ps ≡ qs = same.0 in
    (omega (arith, ap length puts, one.0), one.1)
one_refusal most o b n m c d (AtPut before p after s h w hs e good f) (AtPut other q rest r k v hr g fine l) =
    let same = same_front b (before ++ p ∷ after) (other ++ q ∷ rest) (script_text s) (script_text r) h k in
    let scripts = same_script s r hs hr same.1 in
    let moved = ap (λ (x : List Line). are_good most x o [] other) scripts ∙ fine in
    let fault = ap (λ (x : List Line). put_fault most (named_in x o q) (past_of other) q) scripts ∙ l in
    let one = first_bad most s o before p after other q rest c d same.0 good moved f fault in
    (omega (arith, e, g, one.0), one.1)
one_refusal most o b n m c d (InScript ps before rest h hs w some e bad) (AtPut other q after r k v hr g fine l) =
    absurd (line_or_put b ps (other ++ q ∷ after) r before rest c h k v hr hs some bad)
one_refusal most o b n m c d (AtPut other q after r k v hr g fine l) (InScript ps before rest h hs w some e bad) =
    absurd (line_or_put b ps (other ++ q ∷ after) r before rest d h k v hr hs some bad)
one_refusal most o b n m c d x y = absurd (let same = same_stop most o b n m c d x y in cc same.1)
