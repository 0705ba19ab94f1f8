-- What the first bytes of a frame tell.
use Rattle.std.proofs.Common.{◌≡◌, ◌≢◌, ◌⊎◌, inl, inr, ℕ, zero, suc, ◌+◌, ◌<◌, ◌≤◌, Bool, true, false, cond, eqb, leb, List, [], ◌∷◌, ◌++◌, length, take, drop, Option, Some, None, refl, ap, sym, ◌∙◌, arith, length-append, length-drop}
use Rattle.std.proofs.lemmas.Bool.Decides.{eqb_tells, leb_tells, nat_tests}
use Rattle.std.proofs.lemmas.List.{drop-append-le, length-take-le, take-append-le, take-take}
use Rattle.std.specs.Int.{w16, from_le_bytes}
use Rattle.dtx_values.specs.RecoveryInfo.{is_from_one}
use Rattle.dtx_model.specs.Frames.{BodyKind, FrameFault, TooShort, NoType, NoTag, WrongLength, bad_place, body_fault, body_kind, body_length, field_fault, frame_fault, tag_fault}
use Rattle.oletx_frames.specs.Feeding.{IsBegun}
use Rattle.oletx_frames.proofs.Faults.{length_passed, length_small}

-- more bytes don't change the answer: it is none, or any fault but too few bytes
abbrev pub is_told : Option FrameFault → Bool
is_told None = true
is_told (Some (TooShort n)) = false
is_told (Some _) = true

-- the length that a frame says
abbrev pub said : List ℕ → ℕ
said x = from_le_bytes w16 (take 2 (drop 2 x))

-- what the bytes behind a tag are, by the body that it has: too few for the length, of another length, too few for the body, or whole
pub data Behind (x : List ℕ) (k : BodyKind) : Type 0 where
  headless : length x < 4 → body_fault x k ≡ Some (TooShort (length x)) → Behind x k
  other : 4 ≤ length x → eqb (said x) (body_length k) ≡ false → said x ≢ body_length k → body_fault x k ≡ Some WrongLength → Behind x k
  cut : 4 ≤ length x → said x ≡ body_length k → length x < 4 + body_length k → body_fault x k ≡ Some (TooShort (length x)) → Behind x k
  whole : said x ≡ body_length k → 4 + body_length k ≤ length x → body_fault x k ≡ field_fault (bad_place k (take (body_length k) (drop 4 x))) → Behind x k

pub behind : (x : List ℕ) (k : BodyKind) → Behind x k
behind x k =
    elim (leb_tells 4 (length x)) [
      | inl p ↦ elim (eqb_tells (said x) (body_length k)) [
        | inl q ↦ elim (leb_tells (4 + body_length k) (length x)) [
          | inl r ↦ whole q.1 r.1 (rw (p.0, q.0, r.0) refl)
          | inr r ↦ cut p.1 q.1 r.1 (rw (p.0, q.0, r.0) refl)
        ]
        | inr q ↦ other p.1 q.0 q.1 (rw (p.0, q.0) refl)
      ]
      | inr p ↦ headless p.1 (rw p.0 refl)
    ]

-- what bytes with a type and a tag are: of no type, of no tag, or of a body
pub data Head (t n : ℕ) (x : List ℕ) : Type 0 where
  untyped : is_from_one 4 t ≡ false → Head t n x
  untagged : is_from_one 4 t ≡ true → body_kind t n ≡ None → Head t n x
  listed : (k : BodyKind) → is_from_one 4 t ≡ true → body_kind t n ≡ Some k → Head t n x

pub head : (t n : ℕ) (x : List ℕ) → Head t n x
head t n x =
    elim (is_from_one 4 t) as (λ b. is_from_one 4 t ≡ b → Head t n x) [
      | true ↦ λ known. elim (body_kind t n) as (λ o. body_kind t n ≡ o → Head t n x) [ Some k ↦ λ is. listed k known is | None ↦ λ is. untagged known is ] refl
      | false ↦ λ unknown. untyped unknown
    ] refl

-- the fault of bytes of no type
pub no_type : (t : ℕ) (x : List ℕ) → is_from_one 4 t ≡ false → frame_fault (t ∷ x) ≡ Some NoType
no_type t [] unknown = ap (λ c. cond c (Some (TooShort 1)) (Some NoType)) unknown
no_type t (n ∷ x) unknown = ap (λ c. cond c (tag_fault (t ∷ n ∷ x) (body_kind t n)) (Some NoType)) unknown

-- of no tag
pub no_tag : (t n : ℕ) (x : List ℕ) → is_from_one 4 t ≡ true → body_kind t n ≡ None → frame_fault (t ∷ n ∷ x) ≡ Some NoTag
no_tag t n x known none = ap (λ c. cond c (tag_fault (t ∷ n ∷ x) (body_kind t n)) (Some NoType)) known ∙ ap (tag_fault (t ∷ n ∷ x)) none

-- and of a body
pub of_body : (t n : ℕ) (x : List ℕ) (k : BodyKind) → is_from_one 4 t ≡ true → body_kind t n ≡ Some k → frame_fault (t ∷ n ∷ x) ≡ body_fault (t ∷ n ∷ x) k
of_body t n x k known is = ap (λ c. cond c (tag_fault (t ∷ n ∷ x) (body_kind t n)) (Some NoType)) known ∙ ap (tag_fault (t ∷ n ∷ x)) is

-- one byte of a type begins a frame
pub type_begun : (t : ℕ) → is_from_one 4 t ≡ true → IsBegun (t ∷ [])
type_begun t known = ap (λ c. cond c (Some (TooShort 1)) (Some NoType)) known

-- a field's fault is told
field_told : (o : Option ℕ) → is_told (field_fault o) ≡ true
field_told None = refl
field_told (Some p) = refl

-- bytes 2 and 3 stay where more bytes come
said-append : (x y : List ℕ) → 4 ≤ length x → said (x ++ y) ≡ said x
said-append (a ∷ b ∷ c ∷ d ∷ x) y long = refl
said-append _ y long = absurd (omega arith)

-- bytes of another length
pub other_length : (x : List ℕ) (k : BodyKind) → 4 ≤ length x → eqb (said x) (body_length k) ≡ false → body_fault x k ≡ Some WrongLength
other_length x k long q =
    let p : leb 4 (length x) ≡ true = grind (arith, nat_tests) in
    rw (p, q) refl

-- what is told of a body stays, whatever bytes come after
body_stays : (x y : List ℕ) (k : BodyKind) → is_told (body_fault x k) ≡ true → body_fault (x ++ y) k ≡ body_fault x k
body_stays x y k told =
    elim (behind x k) [
      | headless l e ↦ absurd (let short = ap is_told e in cc)
      | other long q differs e ↦ other_length (x ++ y) k (omega (arith, length-append x y)) (ap (λ n. eqb n (body_length k)) (said-append x y long) ∙ q) ∙ sym e
      | cut long same l e ↦ absurd (let short = ap is_told e in cc)
      | whole same long e ↦
          length_passed (x ++ y) k (omega (arith, length-append x y)) (said-append x y (omega arith) ∙ same)
          ∙ ap (λ (z : List ℕ). field_fault (bad_place k (take (body_length k) z))) (drop-append-le 4 x y (omega arith))
          ∙ ap (λ (z : List ℕ). field_fault (bad_place k z)) (take-append-le (body_length k) (drop 4 x) y (omega (arith, length-drop 4 x))) ∙ sym e
    ]

-- what is told of bytes stays, whatever bytes come after: no fault, or any fault but too few bytes
pub stays : (x y : List ℕ) → is_told (frame_fault x) ≡ true → frame_fault (x ++ y) ≡ frame_fault x
stays [] y told = absurd (cc)
stays (t ∷ []) y told =
    elim (is_from_one 4 t) as (λ b. is_from_one 4 t ≡ b → frame_fault (t ∷ y) ≡ frame_fault (t ∷ [])) [
      | true ↦ λ known. absurd (let short = ap is_told (type_begun t known) in cc)
      | false ↦ λ unknown. no_type t y unknown ∙ sym (no_type t [] unknown)
    ] refl
stays (t ∷ n ∷ x) y told =
    elim (head t n x) [
      | untyped unknown ↦ no_type t (n ∷ x ++ y) unknown ∙ sym (no_type t (n ∷ x) unknown)
      | untagged known none ↦ no_tag t n (x ++ y) known none ∙ sym (no_tag t n x known none)
      | listed k known is ↦
          let body = of_body t n x k known is in
          of_body t n (x ++ y) k known is ∙ body_stays (t ∷ n ∷ x) y k (ap is_told (sym body) ∙ told) ∙ sym body
    ]

-- bytes begin a frame, or are told
body_known : (x : List ℕ) (k : BodyKind) → (body_fault x k ≡ Some (TooShort (length x))) ⊎ (is_told (body_fault x k) ≡ true)
body_known x k =
    elim (behind x k) [
      | headless l e ↦ inl e
      | other long q differs e ↦ inr (ap is_told e)
      | cut long same l e ↦ inl e
      | whole same long e ↦ inr (ap is_told e ∙ field_told (bad_place k (take (body_length k) (drop 4 x))))
    ]

pub begun_or_told : (x : List ℕ) → IsBegun x ⊎ (is_told (frame_fault x) ≡ true)
begun_or_told [] = inl refl
begun_or_told (t ∷ []) =
    elim (is_from_one 4 t) as (λ b. is_from_one 4 t ≡ b → IsBegun (t ∷ []) ⊎ (is_told (frame_fault (t ∷ [])) ≡ true)) [
      | true ↦ λ known. inl (type_begun t known)
      | false ↦ λ unknown. inr (ap is_told (no_type t [] unknown))
    ] refl
begun_or_told (t ∷ n ∷ x) =
    elim (head t n x) [
      | untyped unknown ↦ inr (ap is_told (no_type t (n ∷ x) unknown))
      | untagged known none ↦ inr (ap is_told (no_tag t n x known none))
      | listed k known is ↦
          let body = of_body t n x k known is in
          elim (body_known (t ∷ n ∷ x) k) [ inl e ↦ inl (body ∙ e) | inr e ↦ inr (ap is_told body ∙ e) ]
    ]

-- what begins a frame isn't told
pub not_both : (x : List ℕ) → IsBegun x → is_told (frame_fault x) ≡ true → ⊥
not_both x begun told = let short = ap is_told begun in cc

-- too few are as many as there are
pub counted : (x : List ℕ) (n : ℕ) → frame_fault x ≡ Some (TooShort n) → n ≡ length x
counted x n short = elim (begun_or_told x) [ inl begun ↦ (let begun : frame_fault x ≡ Some (TooShort (length x)) = begun in cc) | inr told ↦ absurd (let e = ap is_told short in cc) ]

-- what begins a frame has fewer than 40 bytes
pub few : (x : List ℕ) → IsBegun x → length x < 40
few [] begun = omega arith
few (t ∷ []) begun = omega arith
few (t ∷ n ∷ x) begun =
    elim (head t n x) [
      | untyped unknown ↦ absurd (not_both (t ∷ n ∷ x) begun (ap is_told (no_type t (n ∷ x) unknown)))
      | untagged known none ↦ absurd (not_both (t ∷ n ∷ x) begun (ap is_told (no_tag t n x known none)))
      | listed k known is ↦
          let body = of_body t n x k known is in
          elim (behind (t ∷ n ∷ x) k) [
            | headless l e ↦ omega arith
            | other long q differs e ↦ absurd (not_both (t ∷ n ∷ x) begun (ap is_told (body ∙ e)))
            | cut long same l e ↦ omega (arith, length_small k)
            | whole same long e ↦ absurd (not_both (t ∷ n ∷ x) begun (ap is_told (body ∙ e) ∙ field_told (bad_place k (take (body_length k) (drop 4 (t ∷ n ∷ x))))))
          ]
    ]

-- bytes of a known body begin a frame where they are fewer than it has, and their length, where they have one, is the body's
body_begun : (x : List ℕ) (k : BodyKind) → length x < 4 + body_length k → (4 ≤ length x → said x ≡ body_length k) → body_fault x k ≡ Some (TooShort (length x))
body_begun x k short same =
    elim (behind x k) [
      | headless l e ↦ e
      | other long q differs e ↦ absurd (differs (same long))
      | cut long is l e ↦ e
      | whole is long e ↦ absurd (omega arith)
    ]

-- so do the first of the bytes of a frame
pub parts_begun : (t n : ℕ) (x : List ℕ) (k : BodyKind) (j : ℕ) → is_from_one 4 t ≡ true → body_kind t n ≡ Some k → j ≤ length (t ∷ n ∷ x) → j < 4 + body_length k
    → (4 ≤ j → said (t ∷ n ∷ x) ≡ body_length k) → IsBegun (take j (t ∷ n ∷ x))
parts_begun t n x k zero known is within short same = refl
parts_begun t n x k (suc zero) known is within short same = type_begun t known
parts_begun t n x k (suc (suc i)) known is within short same =
    let l : length (take i x) ≡ i = length-take-le i x (omega arith) in
    of_body t n (take i x) k known is
    ∙ body_begun (t ∷ n ∷ take i x) k (omega arith) (λ (h : 4 ≤ length (t ∷ n ∷ take i x)). ap (from_le_bytes w16) (take-take 2 i x (omega arith)) ∙ same (omega arith))

-- a whole body is told
pub whole_told : (x : List ℕ) (k : BodyKind) → said x ≡ body_length k → 4 + body_length k ≤ length x → is_told (body_fault x k) ≡ true
whole_told x k same long =
    elim (behind x k) [
      | headless l e ↦ absurd (omega arith)
      | other l q differs e ↦ absurd (differs same)
      | cut l is short e ↦ absurd (omega arith)
      | whole is l e ↦ ap is_told e ∙ field_told (bad_place k (take (body_length k) (drop 4 x)))
    ]
