-- Frames in pieces.
use Rattle.std.proofs.Common.{◌≡◌, inl, inr, ℕ, ◌+◌, ◌-◌, ◌<◌, ◌≤◌, true, eqb, List, [], ◌∷◌, ◌++◌, length, take, drop, Some, None, refl, ap, sym, subst, ◌∙◌, arith, length-append, append_assoc, append-nil, eq-eqb}
use Rattle.std.specs.Prelude.{◌↔◌}
use Rattle.std.specs.List.{concat, flat_map}
use Rattle.std.proofs.lemmas.Bool.{and_parts, cases_lt, cond-true, cond-false}
use Rattle.std.proofs.lemmas.Bool.Decides.{eqb_tells}
use Rattle.std.proofs.lemmas.List.{append_cancel_left, drop_all, length-take-le, take_all, take-append-drop, take-append-le, take-take}
use Rattle.std.proofs.Math.Seq.{take-append-add}
use Rattle.dtx_values.specs.declared.message.Message.{Message}
use Rattle.dtx_model.specs.Frames.{FrameFault, TooShort, IsFrame, frame_fault, frame_of, is_valid}
use Rattle.dtx_model.specs.Words.{each}
use Rattle.oletx_frames.specs.Feeding.{Completes, Continues, Feeding, Feeds, Gives, IsAtFault, IsBegun, IsRefused, Reading, Spoils, ended_by, holding, is_final, left_after, left_by, message_in, still}
use Rattle.oletx_frames.specs.Refusals.{IsPlaced, fault_of}
use Rattle.oletx_frames.specs.declared.fed.Fed.{Fed}
use Rattle.oletx_frames.specs.declared.fed.Fed.TheVariants.{More, Msg, Bad}
use Rattle.oletx_frames.specs.declared.refusal.FrameRefusal.{FrameRefusal}
use Rattle.oletx_frames.specs.declared.refusal.FrameRefusal.TheVariants.{Short, BadType, BadTag, BadLength, BadValue}
use Rattle.oletx_frames.proofs.Fronts.{few, is_told, not_both, stays}
use Rattle.oletx_frames.proofs.Pieces.{no_fault, same_messages}
use Rattle.oletx_frames.proofs.Telling.{final_told, refusal_stays}

-- a frame, whatever comes after it, has no fault
frame_first : (x y : List ℕ) (m : Message) → IsFrame x m → frame_fault (x ++ y) ≡ None
frame_first x y m p = ap (λ (z : List ℕ). frame_fault (z ++ y)) p.bytes ∙ no_fault m y p.valid

-- a frame is told
frame_told : (x : List ℕ) (m : Message) → IsFrame x m → is_told (frame_fault x) ≡ true
frame_told x m p = ap is_told (ap frame_fault (sym (append-nil x)) ∙ frame_first x [] m p)

-- refusals with their places are told apart by their faults
same_refusal : (e d : FrameRefusal) → IsPlaced e → IsPlaced d → fault_of e ≡ fault_of d → e ≡ d
same_refusal (Short n) (Short k) p q s = ap Short (cc)
same_refusal (BadType n) (BadType k) p q s = ap BadType (p ∙ sym q)
same_refusal (BadTag n) (BadTag k) p q s = ap BadTag (p ∙ sym q)
same_refusal (BadLength n) (BadLength k) p q s = ap BadLength (p ∙ sym q)
same_refusal (BadValue n) (BadValue k) p q s = ap BadValue (cc)
same_refusal _ _ p q s = absurd (cc)

-- the first i bytes and those after them
front : (b : List ℕ) (i : ℕ) → frame_fault b ≡ frame_fault (take i b ++ drop i b)
front b i = ap frame_fault (sym (take-append-drop i b))

-- a message in the first bytes, and a fault in them, tell of all
message_all : (b : List ℕ) (i : ℕ) (m : Message) → Gives [] b i (Msg m) → frame_fault b ≡ None
message_all b i m g = front b i ∙ frame_first (take i b) (drop i b) m g.1

bad_all : (b : List ℕ) (i : ℕ) (e : FrameRefusal) → Gives [] b i (Bad e) → frame_fault b ≡ Some (fault_of e)
bad_all b i e g = front b i ∙ (refusal_stays (take i b) (drop i b) e g.1.refused g.1.final).fault

-- no fault is told of fewer bytes than another
no_sooner : (b : List ℕ) (i j : ℕ) (e d : FrameRefusal) → Gives [] b i (Bad e) → Gives [] b j (Bad d) → i < j → ⊥
no_sooner b i j e d g h sooner =
    let l : length (take j b) ≡ j = length-take-le j b h.0 in
    let begun = h.1.before i (omega arith) in
    not_both (take i b) (subst IsBegun (take-take i j b (omega arith)) begun) (ap is_told g.1.refused.fault ∙ final_told e g.1.final)

-- what the first bytes tell, and how many of them, has one answer
once : (b : List ℕ) (i j : ℕ) (a c : Fed) → Gives [] b i a → Gives [] b j c → (i ≡ j) × (a ≡ c)
once b i j (Msg m) (Msg n) g h =
    let first = ap (λ (x : List ℕ). x ++ drop i b) (sym g.1.bytes) ∙ take-append-drop i b in
    let second = ap (λ (x : List ℕ). x ++ drop j b) (sym h.1.bytes) ∙ take-append-drop j b in
    let same = same_messages m n (drop i b) (drop j b) (first ∙ sym second) g.1.valid h.1.valid in
    let lengths : i ≡ j = sym (length-take-le i b g.0) ∙ ap length g.1.bytes ∙ ap (λ x. length (frame_of x)) same ∙ ap length (sym h.1.bytes) ∙ length-take-le j b h.0 in
    (lengths, ap Msg same)
once b i j (Msg m) (Bad d) g h = absurd (let first = message_all b i m g in let second = bad_all b j d h in cc)
once b i j (Msg m) More g h = absurd (let first = message_all b i m g in let second = h.1 in cc)
once b i j (Bad e) (Msg n) g h = absurd (let first = message_all b j n h in let second = bad_all b i e g in cc)
once b i j (Bad e) (Bad d) g h =
    let faults : fault_of e ≡ fault_of d = (let first = bad_all b i e g in let second = bad_all b j d h in cc) in
    let places : i ≡ j =
    elim (cases_lt i j) [
      | inl sooner ↦ absurd (no_sooner b i j e d g h sooner)
      | inr later ↦ elim (cases_lt j i) [ inl sooner ↦ absurd (no_sooner b j i d e h g sooner) | inr same ↦ omega arith ]
    ] in
    (places, ap Bad (same_refusal e d g.1.refused.placed h.1.refused.placed faults))
once b i j (Bad e) More g h = absurd (not_both b h.1 (ap is_told (bad_all b i e g) ∙ final_told e g.1.final))
once b i j More (Msg n) g h = absurd (let first = message_all b j n h in let second = g.1 in cc)
once b i j More (Bad d) g h = absurd (not_both b g.1 (ap is_told (bad_all b j d h) ∙ final_told d h.1.final))
once b i j More More g h = (g.0 ∙ sym h.0, refl)

-- what is held comes first
moved : (held piece : List ℕ) (n : ℕ) (a : Fed) → Gives held piece n a → Gives [] (held ++ piece) (length held + n) a
moved held piece n (Msg m) g = (omega (arith, length-append held piece), subst (λ (x : List ℕ). IsFrame x m) (sym (take-append-add held piece n)) g.1)
moved held piece n (Bad e) g = (omega (arith, length-append held piece), subst (λ (x : List ℕ). IsAtFault x e) (sym (take-append-add held piece n)) g.1)
moved held piece n More g = (omega (arith, length-append held piece), g.1)

-- so a call has one answer
pub exactly : (held piece : List ℕ) (call : ℕ × Fed) → Gives held piece call.0 call.1 → (n : ℕ) (c : Fed) → (call ≡ (n, c)) ↔ Gives held piece n c
exactly held piece call g n c = (
  λ e. subst (λ (p : ℕ × Fed). Gives held piece p.0 p.1) e g,
  λ h.
      let same = once (held ++ piece) (length held + call.0) (length held + n) call.1 c (moved held piece call.0 call.1 g) (moved held piece n c h) in
      let taken : call.0 ≡ n = omega (arith, same.0) in
      λ k. (taken k, same.1 k),
)

-- a call of a reader that hasn't ended
pub feeds : (old : Reading) (piece : List ℕ) (call : ℕ × Fed) (new : Reading) → old.ended ≡ None → Gives old.held piece call.0 call.1 → new ≡ left_after old piece call.1 → Feeds old piece call new
feeds old piece call new going g is = record {
  message = λ _ n m. exactly old.held piece call g n (Msg m);
  bad = λ _ n e. exactly old.held piece call g n (Bad e);
  more = λ _ n. exactly old.held piece call g n More;
  ended = λ e over. absurd (cc);
  after = is;
}

-- of one that has
pub feeds_ended : (old : Reading) (piece : List ℕ) (new : Reading) (e : FrameRefusal) → old.ended ≡ Some e → new ≡ ended_by e → Feeds old piece (0, Bad e) new
feeds_ended old piece new e over is = record {
  message = λ going n m. absurd (cc);
  bad = λ going n d. absurd (cc);
  more = λ going n. absurd (cc);
  ended = λ d also. λ k. (0, Bad (let same : e ≡ d = cc in same k));
  after = is;
}

-- no part of what begins a frame is told
no_part : (x : List ℕ) (i : ℕ) → IsBegun x → is_told (frame_fault (take i x)) ≡ true → ⊥
no_part x i begun told = not_both x begun (ap is_told (front x i ∙ stays (take i x) (drop i x) told) ∙ told)

-- so what the bytes of a piece behind it tell, is told behind it
behind_held : (held y : List ℕ) (t : ℕ) (a : Fed) → IsBegun held → Gives [] (held ++ y) t a → t < length held → ⊥
behind_held held y t (Msg m) begun g sooner =
    no_part held t begun (ap (λ (x : List ℕ). is_told (frame_fault x)) (sym (take-append-le t held y (omega arith))) ∙ frame_told (take t (held ++ y)) m g.1)
behind_held held y t (Bad e) begun g sooner =
    no_part held t begun (ap (λ (x : List ℕ). is_told (frame_fault x)) (sym (take-append-le t held y (omega arith))) ∙ ap is_told g.1.refused.fault ∙ final_told e g.1.final)
behind_held held y t More begun g sooner = omega (arith, length-append held y)

-- the first bytes of a piece tell what the piece does, where they are all of it or enough for any frame
first_tell : (held piece : List ℕ) (fit n : ℕ) (a : Fed) → fit ≤ length piece → (fit < length piece → 40 ≤ length held + fit) → Gives [] (held ++ take fit piece) (length held + n) a
    → Gives held piece n a
first_tell held piece fit n (Msg m) within enough g =
    let l : length (take fit piece) ≡ fit = length-take-le fit piece within in
    let taken : n ≤ fit = omega (arith, length-append held (take fit piece)) in
    (omega arith, subst (λ (x : List ℕ). IsFrame x m) (take-append-add held (take fit piece) n ∙ ap (λ (x : List ℕ). held ++ x) (take-take n fit piece taken)) g.1)
first_tell held piece fit n (Bad e) within enough g =
    let l : length (take fit piece) ≡ fit = length-take-le fit piece within in
    let taken : n ≤ fit = omega (arith, length-append held (take fit piece)) in
    (omega arith, subst (λ (x : List ℕ). IsAtFault x e) (take-append-add held (take fit piece) n ∙ ap (λ (x : List ℕ). held ++ x) (take-take n fit piece taken)) g.1)
first_tell held piece fit n More within enough g =
    let l : length (take fit piece) ≡ fit = length-take-le fit piece within in
    let small = few (held ++ take fit piece) g.1 in
    let all : fit ≡ length piece =
    elim (cases_lt fit (length piece)) [ inl less ↦ absurd (omega (arith, enough less, length-append held (take fit piece))) | inr full ↦ omega arith ] in
    let is : take fit piece ≡ piece = take_all fit piece (omega arith) in
    (omega (arith, length-append held (take fit piece)), subst (λ (x : List ℕ). IsBegun (held ++ x)) is g.1)

pub widen : (held piece : List ℕ) (fit t : ℕ) (a : Fed) → IsBegun held → fit ≤ length piece → (fit < length piece → 40 ≤ length held + fit) → Gives [] (held ++ take fit piece) t a
    → (length held ≤ t) × Gives held piece (t - length held) a
widen held piece fit t a begun within enough g =
    elim (cases_lt t (length held)) [
      | inl sooner ↦ absurd (behind_held held (take fit piece) t a begun g sooner)
      | inr later ↦ (
          let whole : t ≡ length held + (t - length held) = omega arith in
          (later, first_tell held piece fit (t - length held) a within enough (subst (λ n. Gives [] (held ++ take fit piece) n a) whole g))
          )
    ]

-- the reader that a refusal but Short leaves is ended by it
left_final : (b : List ℕ) (e : FrameRefusal) → is_final e ≡ true → left_by b e ≡ ended_by e
left_final b (Short n) final = absurd (cc)
left_final b (BadType p) final = refl
left_final b (BadTag p) final = refl
left_final b (BadLength p) final = refl
left_final b (BadValue p) final = refl

-- one that begins a frame leaves a reader that holds it
left_begun : (b : List ℕ) (e : FrameRefusal) → IsBegun b → IsRefused b e → left_by b e ≡ holding b
left_begun b (Short n) begun r = refl
left_begun b (BadType p) begun r = absurd (let fault = r.fault in cc)
left_begun b (BadTag p) begun r = absurd (let fault = r.fault in cc)
left_begun b (BadLength p) begun r = absurd (let fault = r.fault in cc)
left_begun b (BadValue p) begun r = absurd (let fault = r.fault in cc)

-- bytes with a fault begin with no message
no_messages : (b rest : List ℕ) (ms : List Message) (f : FrameFault) → each is_valid ms ≡ true → b ≡ flat_map frame_of ms ++ rest → frame_fault b ≡ Some f → ms ≡ []
no_messages b rest [] f valid is fault = refl
no_messages b rest (m ∷ ms) f valid is fault =
    let parts = and_parts (is_valid m) (each is_valid ms) valid in
    let none = ap frame_fault (is ∙ append_assoc (frame_of m) (flat_map frame_of ms) rest) ∙ no_fault m (flat_map frame_of ms ++ rest) parts.0 in
    absurd (cc)

-- without messages the bytes are the rest
only_rest : (b rest : List ℕ) (ms : List Message) → b ≡ flat_map frame_of ms ++ rest → ms ≡ [] → b ≡ rest
only_rest b rest ms is none = is ∙ ap (λ xs. flat_map frame_of xs ++ rest) none

-- bytes where a piece is cut
cut_piece : (held p z : List ℕ) (n : ℕ) → held ++ (p ++ z) ≡ (held ++ take n p) ++ (drop n p ++ z)
cut_piece held p z n =
    ap (λ (x : List ℕ). held ++ (x ++ z)) (sym (take-append-drop n p)) ∙ ap (λ (x : List ℕ). held ++ x) (append_assoc (take n p) (drop n p) z)
    ∙ sym (append_assoc held (take n p) (drop n p ++ z))

-- what is still to be fed after a message
still_left : (n : ℕ) (m : Message) (p : List ℕ) (pieces : List (List ℕ)) → concat (still n (Msg m) p pieces) ≡ drop n p ++ concat pieces
still_left n m p pieces =
    elim (eqb_tells n (length p)) [
      | inl all ↦ ap concat (cond-true (eqb n (length p)) pieces (drop n p ∷ pieces) all.0) ∙ sym (ap (λ (x : List ℕ). x ++ concat pieces) (drop_all n p (let is = all.1 in omega arith)))
      | inr part ↦ ap concat (cond-false (eqb n (length p)) pieces (drop n p ∷ pieces) part.0)
    ]

-- nothing is fed where no piece is left
feeding_none : (s : Reading) (calls : List (ℕ × Fed)) (end : Reading) → Feeding s [] calls end → (calls ≡ []) × (end ≡ s)
feeding_none s [] end f = (refl, f)
feeding_none s (call ∷ calls) end f = absurd f

-- nothing more is fed to a reader that holds a beginning
fed_none : (held : List ℕ) (ms : List Message) (rest : List ℕ) (e : FrameRefusal) (end : Reading) → IsBegun held → each is_valid ms ≡ true → IsRefused rest e
    → held ++ [] ≡ flat_map frame_of ms ++ rest → end ≡ holding held → ([] ≡ ms) × (end ≡ left_by rest e)
fed_none held ms rest e end begun valid r is f =
    let none = no_messages (held ++ []) rest ms (TooShort (length held)) valid is (ap frame_fault (append-nil held) ∙ begun) in
    let same = sym (append-nil held) ∙ only_rest (held ++ []) rest ms is none in
    (sym none, f ∙ ap holding same ∙ sym (left_begun rest e (subst IsBegun same begun) r))

-- what begins with a refusal that nothing mends is the rest, and leaves the reader that it ended
fed_bad : (b rest : List ℕ) (ms : List Message) (e d : FrameRefusal) → each is_valid ms ≡ true → IsRefused rest e → b ≡ flat_map frame_of ms ++ rest → IsRefused b d → is_final d ≡ true
    → ([] ≡ ms) × (ended_by d ≡ left_by rest e)
fed_bad b rest ms e d valid r is q final =
    let none = no_messages b rest ms (fault_of d) valid is q.fault in
    let faults = sym r.fault ∙ ap frame_fault (sym (only_rest b rest ms is none)) ∙ q.fault in
    let same : e ≡ d = same_refusal e d r.placed q.placed (cc) in
    (sym none, sym (left_final rest d final) ∙ ap (left_by rest) (sym same))

-- feeding pieces to a reader that holds a beginning
pub fed : (calls : List (ℕ × Fed)) (held : List ℕ) (ms : List Message) (rest : List ℕ) (e : FrameRefusal) (pieces : List (List ℕ)) (end : Reading) → IsBegun held → each is_valid ms ≡ true
    → IsRefused rest e → held ++ concat pieces ≡ flat_map frame_of ms ++ rest → Feeding (holding held) pieces calls end → (flat_map message_in calls ≡ ms) × (end ≡ left_by rest e)
fed [] held ms rest e [] end begun valid r is f = fed_none held ms rest e end begun valid r is f
fed [] held ms rest e (p ∷ pieces) end begun valid r is f = absurd f
fed (call ∷ calls) held ms rest e [] end begun valid r is f = absurd f
fed ((n, More) ∷ calls) held ms rest e (p ∷ pieces) end begun valid r is f =
    let g : Continues held p n = (f.1.more refl n).0 refl in
    let used = cond-true (eqb n (length p)) pieces (drop n p ∷ pieces) (eq-eqb n (length p) g.0) in
    let next = subst (λ s. Feeding s pieces calls end) f.1.after (subst (λ ps. Feeding f.0 ps calls end) used f.2) in
    fed calls (held ++ p) ms rest e pieces end g.1 valid r (append_assoc held p (concat pieces) ∙ is) next
fed ((n, Msg m) ∷ calls) held [] rest e (p ∷ pieces) end begun valid r is f =
    let g : Completes held p n m = (f.1.message refl n m).0 refl in
    let none = ap frame_fault (sym is ∙ cut_piece held p (concat pieces) n) ∙ frame_first (held ++ take n p) (drop n p ++ concat pieces) m g.1 in
    absurd (let fault = r.fault in cc)
fed ((n, Msg m) ∷ calls) held (k ∷ ms) rest e (p ∷ pieces) end begun valid r is f =
    let g : Completes held p n m = (f.1.message refl n m).0 refl in
    let parts = and_parts (is_valid k) (each is_valid ms) valid in
    let more = drop n p ++ concat pieces in
    let all = ap (λ (x : List ℕ). x ++ more) (sym g.1.bytes) ∙ sym (cut_piece held p (concat pieces) n) ∙ is ∙ append_assoc (frame_of k) (flat_map frame_of ms) rest in
    let same = same_messages m k more (flat_map frame_of ms ++ rest) all g.1.valid parts.0 in
    let left = append_cancel_left (frame_of m) more (flat_map frame_of ms ++ rest) (all ∙ ap (λ x. frame_of x ++ (flat_map frame_of ms ++ rest)) (sym same)) in
    let next = subst (λ s. Feeding s (still n (Msg m) p pieces) calls end) f.1.after f.2 in
    let others = fed calls [] ms rest e (still n (Msg m) p pieces) end refl parts.1 r (still_left n m p pieces ∙ left) next in
    (λ i. same i ∷ others.0 i, others.1)
fed ((n, Bad d) ∷ calls) held ms rest e (p ∷ pieces) end begun valid r is f =
    let g : Spoils held p n d = (f.1.bad refl n d).0 refl in
    let refused = refusal_stays (held ++ take n p) (drop n p ++ concat pieces) d g.1.refused g.1.final in
    let last = fed_bad ((held ++ take n p) ++ (drop n p ++ concat pieces)) rest ms e d valid r (sym (cut_piece held p (concat pieces) n) ∙ is) refused g.1.final in
    let none = feeding_none f.0 calls end f.2 in
    (ap (flat_map message_in) none.0 ∙ last.0, none.1 ∙ f.1.after ∙ last.1)
