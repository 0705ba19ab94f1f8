-- How many bytes tell a fault.
use Rattle.std.proofs.Common.{◌≡◌, ◌≢◌, ◌⊎◌, inl, inr, ℕ, zero, suc, ◌+◌, ◌<◌, ◌≤◌, true, false, eqb, List, [], ◌∷◌, ◌++◌, length, take, drop, Option, Some, None, refl, ap, sym, subst, ◌∙◌, arith, length-append}
use Rattle.std.proofs.lemmas.List.{length-take-le, take_at, take-append-drop, take-take}
use Rattle.std.proofs.lemmas.Nat.{from_le_bytes-to_le_bytes_2}
use Rattle.std.specs.Int.{w16, from_le_bytes, to_le_bytes}
use Rattle.dtx_values.specs.declared.message.Message.{Message}
use Rattle.dtx_values.specs.RecoveryInfo.{is_from_one}
use Rattle.dtx_model.specs.Frames.{BodyKind, FrameFault, TooShort, NoType, NoTag, WrongLength, BadField, bad_place, body_fault, body_length, field_fault, frame_fault, frame_of}
use Rattle.oletx_frames.specs.Bodies.{body_bytes}
use Rattle.oletx_frames.specs.Feeding.{IsAtFault, IsBegun, IsRefused, is_final}
use Rattle.oletx_frames.specs.Refusals.{fault_of}
use Rattle.oletx_frames.specs.declared.refusal.FrameRefusal.{FrameRefusal}
use Rattle.oletx_frames.specs.declared.refusal.FrameRefusal.TheVariants.{Short, BadType, BadTag, BadLength, BadValue}
use Rattle.oletx_frames.proofs.Fronts.{headless, other, cut, whole, behind, untyped, untagged, listed, head, is_told, no_tag, no_type, of_body, other_length, parts_begun, said, stays, type_begun, whole_told}
use Rattle.oletx_frames.proofs.Pieces.{body_small, frame_is, kind_in, kind_is, length_is, pieces_of, type_is}

-- a refusal that nothing mends is of a fault that is told
pub final_told : (e : FrameRefusal) → is_final e ≡ true → is_told (Some (fault_of e)) ≡ true
final_told (Short n) final = absurd (cc)
final_told (BadType p) final = refl
final_told (BadTag p) final = refl
final_told (BadLength p) final = refl
final_told (BadValue p) final = refl

-- such a refusal stays
pub refusal_stays : (x y : List ℕ) (e : FrameRefusal) → IsRefused x e → is_final e ≡ true → IsRefused (x ++ y) e
refusal_stays x y e r final = record { fault = stays x y (ap is_told r.fault ∙ final_told e final) ∙ r.fault; placed = r.placed }

-- a field's fault is of no type, no tag or no length
field_only : (o : Option ℕ) (f : FrameFault) → field_fault o ≡ Some f → (f ≢ NoType) × (f ≢ NoTag) × (f ≢ WrongLength)
field_only None f e = absurd (cc)
field_only (Some p) f e = (λ s. cc, λ s. cc, λ s. cc)

-- a body's fault is of no type and no tag
body_only : (x : List ℕ) (k : BodyKind) (f : FrameFault) → body_fault x k ≡ Some f → (f ≢ NoType) × (f ≢ NoTag)
body_only x k f is =
    elim (behind x k) [
      | headless l e ↦ (λ s. cc, λ s. cc)
      | other long q differs e ↦ (λ s. cc, λ s. cc)
      | cut long same l e ↦ (λ s. cc, λ s. cc)
      | whole same long e ↦ (let only = field_only (bad_place k (take (body_length k) (drop 4 x))) f (sym e ∙ is) in (only.0, only.1))
    ]

-- the fault of a type is told by one byte
pub at_type : (b : List ℕ) (p : ℕ) → IsRefused b (BadType p) → (1 ≤ length b) × IsAtFault (take 1 b) (BadType p)
at_type [] p r = absurd (let fault = r.fault in cc)
at_type (t ∷ x) p r =
    elim (is_from_one 4 t) as (λ c. is_from_one 4 t ≡ c → (1 ≤ length (t ∷ x)) × IsAtFault (take 1 (t ∷ x)) (BadType p)) [
      | true ↦ λ known. absurd (typed t x known r.fault)
      | false ↦ λ unknown. (
        omega arith,
        record {
          refused = record { fault = no_type t [] unknown; placed = r.placed };
          final = refl;
          before = λ j h. let none : j ≡ 0 = omega arith in rw none refl;
        },
      )
    ] refl
  where
    typed : (t : ℕ) (x : List ℕ) → is_from_one 4 t ≡ true → frame_fault (t ∷ x) ≡ Some NoType → ⊥
    typed t [] known fault = let begun = type_begun t known in cc
    typed t (n ∷ x) known fault =
        elim (head t n x) [
          | untyped unknown ↦ cc
          | untagged is none ↦ (let e = no_tag t n x is none in cc)
          | listed k is found ↦ (body_only (t ∷ n ∷ x) k NoType (sym (of_body t n x k is found) ∙ fault)).0 refl
        ]

-- one byte is too few or no type
one_byte : (t : ℕ) (f : FrameFault) → frame_fault (t ∷ []) ≡ Some f → (f ≡ TooShort 1) ⊎ (f ≡ NoType)
one_byte t f fault =
    elim (is_from_one 4 t) as (λ c. is_from_one 4 t ≡ c → (f ≡ TooShort 1) ⊎ (f ≡ NoType)) [
      | true ↦ λ known. inl (let e = type_begun t known in cc)
      | false ↦ λ unknown. inr (let e = no_type t [] unknown in cc)
    ] refl

-- that of a tag by two
pub at_tag : (b : List ℕ) (p : ℕ) → IsRefused b (BadTag p) → (2 ≤ length b) × IsAtFault (take 2 b) (BadTag p)
at_tag [] p r = absurd (let fault = r.fault in cc)
at_tag (t ∷ []) p r = absurd (elim (one_byte t NoTag r.fault) [ inl e ↦ cc | inr e ↦ cc ])
at_tag (t ∷ n ∷ x) p r =
    elim (head t n x) [
      | untyped unknown ↦ absurd (let e = no_type t (n ∷ x) unknown in let fault = r.fault in cc)
      | untagged known none ↦ (
        omega arith,
        record {
          refused = record { fault = no_tag t n [] known none; placed = r.placed };
          final = refl;
          before = two t n known;
        },
      )
      | listed k known is ↦ absurd ((body_only (t ∷ n ∷ x) k NoTag (sym (of_body t n x k known is) ∙ r.fault)).1 refl)
    ]
  where
    two : (t n : ℕ) → is_from_one 4 t ≡ true → (j : ℕ) → j < 2 → IsBegun (take j (t ∷ n ∷ []))
    two t n known zero h = refl
    two t n known (suc zero) h = type_begun t known
    two t n known (suc (suc j)) h = absurd (omega arith)

-- that of a length by four
pub at_length : (b : List ℕ) (p : ℕ) → IsRefused b (BadLength p) → (4 ≤ length b) × IsAtFault (take 4 b) (BadLength p)
at_length [] p r = absurd (let fault = r.fault in cc)
at_length (t ∷ []) p r = absurd (elim (one_byte t WrongLength r.fault) [ inl e ↦ cc | inr e ↦ cc ])
at_length (t ∷ n ∷ x) p r =
    elim (head t n x) [
      | untyped unknown ↦ absurd (let e = no_type t (n ∷ x) unknown in let fault = r.fault in cc)
      | untagged known none ↦ absurd (let e = no_tag t n x known none in let fault = r.fault in cc)
      | listed k known is ↦ (
          let body = of_body t n x k known is in
          elim (behind (t ∷ n ∷ x) k) [
            | headless l e ↦ absurd (let fault = r.fault in cc)
            | other long q differs e ↦ (
                let first = t ∷ n ∷ take 2 x in
                let l : length (take 2 x) ≡ 2 = length-take-le 2 x (omega arith) in
                let says : said first ≡ said (t ∷ n ∷ x) = ap (from_le_bytes w16) (take-take 2 2 x (omega arith)) in (
                  long,
                  record {
                    refused = record { fault = of_body t n (take 2 x) k known is ∙ other_length first k (omega arith) (ap (λ m. eqb m (body_length k)) says ∙ q); placed = r.placed };
                    final = refl;
                    before = λ j h. parts_begun t n (take 2 x) k j known is (omega arith) (omega arith) (λ (enough : 4 ≤ j). absurd (omega arith));
                  },
                )
                )
            | cut long same l e ↦ absurd (let fault = r.fault in cc)
            | whole same long e ↦ absurd ((field_only (bad_place k (take (body_length k) (drop 4 (t ∷ n ∷ x)))) WrongLength (sym e ∙ sym body ∙ r.fault)).2 refl)
          ]
          )
    ]

-- that of a value by the whole frame
pub at_value : (b : List ℕ) (p i : ℕ) → IsRefused b (BadValue p) → i ≡ 4 + said b → (i ≤ length b) × IsAtFault (take i b) (BadValue p)
at_value [] p i r all = absurd (let fault = r.fault in cc)
at_value (t ∷ []) p i r all = absurd (elim (one_byte t (BadField p) r.fault) [ inl e ↦ cc | inr e ↦ cc ])
at_value (t ∷ n ∷ x) p (suc (suc i)) r all =
    elim (head t n x) [
      | untyped unknown ↦ absurd (let e = no_type t (n ∷ x) unknown in let fault = r.fault in cc)
      | untagged known none ↦ absurd (let e = no_tag t n x known none in let fault = r.fault in cc)
      | listed k known is ↦ (
          let body = of_body t n x k known is in
          elim (behind (t ∷ n ∷ x) k) [
            | headless l e ↦ absurd (let fault = r.fault in cc)
            | other long q differs e ↦ absurd (let fault = r.fault in cc)
            | cut long same l e ↦ absurd (let fault = r.fault in cc)
            | whole same long e ↦ (
                let first = t ∷ n ∷ take i x in
                let l : length (take i x) ≡ i = length-take-le i x (omega arith) in
                let says : said first ≡ body_length k = ap (from_le_bytes w16) (take-take 2 i x (omega arith)) ∙ same in
                let told : is_told (frame_fault first) ≡ true = ap is_told (of_body t n (take i x) k known is) ∙ whole_told first k says (omega arith) in (
                  omega arith,
                  record {
                    refused = record { fault = sym (stays first (drop i x) told) ∙ ap (λ (y : List ℕ). frame_fault (t ∷ n ∷ y)) (take-append-drop i x) ∙ r.fault; placed = tt };
                    final = refl;
                    before = λ j h. parts_begun t n (take i x) k j known is (omega arith) (omega arith) (λ (enough : 4 ≤ j). says);
                  },
                )
                )
          ]
          )
    ]
at_value (t ∷ n ∷ x) p _ r all = absurd (omega arith)

-- a list that isn't empty has an item
pub some_long : (x : List ℕ) → x ≢ [] → 0 < length x
some_long [] some = absurd (some refl)
some_long (a ∷ x) some = omega arith

-- the frame of a valid message begins with parts that aren't whole
pub part_begun : (m : Message) (b rest : List ℕ) → frame_of m ≡ b ++ rest → rest ≢ [] → IsBegun b
part_begun m b rest is some =
    let f = pieces_of m in
    let k = kind_in f.body in
    let x = to_le_bytes w16 (length (body_bytes f.body)) ++ body_bytes f.body in
    let all : b ++ rest ≡ f.type ∷ f.tag ∷ x = sym is ∙ frame_is m in
    let l : length b + length rest ≡ 4 + body_length k = omega (arith, length-append b rest, ap length all, length_is f.body) in
    let more : 0 < length rest = some_long rest some in
    let says : said (f.type ∷ f.tag ∷ x) ≡ body_length k = from_le_bytes-to_le_bytes_2 (length (body_bytes f.body)) (omega (arith, body_small f.body)) ∙ length_is f.body in
    subst IsBegun (ap (take (length b)) (sym all) ∙ take_at b rest (length b) refl)
    (parts_begun f.type f.tag x k (length b) (type_is m) (kind_is m) (omega (arith, length_is f.body)) (omega arith) (λ _. says))
