use Rattle.std.proofs.Common.{◌≡◌, ◌++◌, ◌∷◌, [], ◌∙◌, suc, zero, ℕ, None, Option, List, ap, refl, arith, length}
use Rattle.std.specs.Prelude.{replicate}
use Rattle.std.proofs.lemmas.List.{length_push}
use Rattle.kv_resource.specs.Bytes.{KvRecord}
use Rattle.kv_resource.proofs.opening.close_all.Goals as goal

-- closed slots with one more
one_more : (n : ℕ) → replicate {A = Option KvRecord} n None ++ None ∷ [] ≡ replicate (suc n) None
one_more zero = refl
one_more (suc n) = ap (λ (l : List (Option KvRecord)). None ∷ l) (one_more n)

pub loop-slots-preserved : goal.loop-slots-preserved
loop-slots-preserved c =
    let was = c.loop-slots.slots.items in
    let i = c.loop-slots.invariant in
    let long : suc (length was) ≡ length c.push_reserved.new.self.items = omega (arith, ap length c.push_reserved.ensures.items, length_push was None) in
    record {
      closed = c.push_reserved.ensures.items ∙ ap (λ (l : List (Option KvRecord)). l ++ None ∷ []) i.closed ∙ one_more (length was) ∙ ap (λ (n : ℕ). replicate n None) long;
      few = omega (arith, long, c.loop-slots-test.true, c.len.ensures);
      room = let room = i.room in omega (arith, c.push_reserved.ensures.capacity, room);
    }
