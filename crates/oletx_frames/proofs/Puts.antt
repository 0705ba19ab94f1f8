-- A piece behind the bytes that a reader holds.
use Rattle.std.proofs.Common.{◌≡◌, ℕ, ◌+◌, ◌-◌, ◌<◌, ◌≤◌, min, List, [], ◌++◌, length, take, ap, subst, ◌∙◌, arith, length-append}
use Rattle.std.proofs.lemmas.List.{length-take-le, take_all}
use Rattle.std.proofs.lemmas.Slice.{take-put_mid}
use borrow.Rule.Slice.PartMut.{put_mid}
use Rattle.oletx_frames.specs.Feeding.{Continues, Gives, IsBegun}
use Rattle.oletx_frames.specs.declared.fed.Fed.{Fed}
use Rattle.oletx_frames.specs.declared.fed.Fed.TheVariants.{More}
use Rattle.oletx_frames.proofs.Fronts.{few}
use Rattle.oletx_frames.proofs.Streams.{widen}

-- the answer to what is held and copied is one to the piece, and where more is wanted the whole piece is behind what was held
pub record IsPut (held piece now : List ℕ) (count all : ℕ) (a : Fed) : Type 0 where
  pub behind : count ≤ all
  pub gives : Gives held piece (all - count) a
  pub kept : a ≡ More → take (count + (all - count)) now ≡ held ++ piece
  pub room : a ≡ More → count + (all - count) < 40

module _ (bytes piece ys : List ℕ) (held fit k : ℕ) (full : length bytes ≡ 40) (room : held < 40) (least : fit ≡ min (length piece) (40 - held)) (copied : ys ≡ take fit piece) where
  -- as many bytes are there as were held
  held_long : length (take held bytes) ≡ held
  held_long = length-take-le held bytes (omega arith)

  -- what is in front once the first bytes of the piece are copied
  put_is : (n : ℕ) → n ≡ held + fit → take n (put_mid held k bytes ys) ≡ take held bytes ++ take fit piece
  put_is n is =
      let l : length ys ≡ fit = ap length copied ∙ length-take-le fit piece (omega arith) in
      take-put_mid held k bytes ys n (omega arith) (omega arith) ∙ ap (λ (x : List ℕ). take held bytes ++ x) copied

  -- so what these bytes tell, the piece does
  put_told : (all : ℕ) (a : Fed) → IsBegun (take held bytes) → Gives [] (take (held + fit) (put_mid held k bytes ys)) all a → (held ≤ all) × Gives (take held bytes) piece (all - held) a
  put_told all a begun told =
      let l = held_long in
      let tells = subst (λ (x : List ℕ). Gives [] x all a) (put_is (held + fit) (omega arith)) told in
      let wide = widen (take held bytes) piece fit all a begun (omega arith) (λ (less : fit < length piece). omega arith) tells in
      (omega (arith, wide.0), subst (λ n. Gives (take held bytes) piece n a) (let n : all - length (take held bytes) ≡ all - held = omega arith in n) wide.1)

  -- where more is wanted, the whole piece is there
  put_kept : (n : ℕ) → Continues (take held bytes) piece n → (held + n < 40) × (take (held + n) (put_mid held k bytes ys) ≡ take held bytes ++ piece)
  put_kept n g =
      let l = held_long in
      let small = few (take held bytes ++ piece) g.1 in
      let room : held + length piece < 40 = omega (arith, length-append (take held bytes) piece) in
      (omega arith, put_is (held + n) (omega arith) ∙ ap (λ (x : List ℕ). take held bytes ++ x) (take_all fit piece (omega arith)))

  pub put : (all : ℕ) (a : Fed) → IsBegun (take held bytes) → Gives [] (take (held + fit) (put_mid held k bytes ys)) all a
      → IsPut (take held bytes) piece (put_mid held k bytes ys) held all a
  put all a begun told =
      let tells = put_told all a begun told in
      let all_of = λ (more : a ≡ More). put_kept (all - held) (subst (Gives (take held bytes) piece (all - held)) more tells.1) in
      record { behind = tells.0; gives = tells.1; kept = λ more. (all_of more).1; room = λ more. (all_of more).0 }
