use Rattle.std.proofs.Common.{◌≡◌, ◌<◌, inl, inr, arith, ap, sym, ◌∙◌, ℕ, List, length, drop, set, None, get_or}
use Rattle.std.specs.Prelude.{insert}
use Rattle.std.proofs.lemmas.List.{length-set, take_at}
use Rattle.kv_resource.specs.Store.{place_in}
use Rattle.kv_resource.proofs.Tables.{place_of_written, write_between, write_over}
use Rattle.kv_resource.proofs.draft.put_write.Goals as goal
use Rattle.kv_resource.proofs.draft.put_write.Goals.{else-at-len-via-then-at-len+else-deref-at, else-at-len-via-else-at-len}

-- no write is to the key there
not_there : (key at : ℕ) (ws s : List (ℕ × ℕ)) → at ≡ place_in key ws → s ≡ ws → ((get_or s at (0, 0)).0 ≡ key → ⊥) → place_in key ws < length ws → (get_or ws (place_in key ws) (0, 0)).0 ≡ key → ⊥
not_there key at ws s a e not lt is = not (ap (λ (l : List (ℕ × ℕ)). (get_or l at (0, 0)).0) e ∙ ap (λ (n : ℕ). (get_or ws n (0, 0)).0) a ∙ is)

pub insert-requires : goal.insert-requires
insert-requires c =
    let ws = c.args.writes.now.items in
    let a : c.place_of-at.result ≡ place_in c.args.key ws = c.place_of-at.ensures.place ∙ ap (place_in c.args.key) c.as_slice.ensures.value in
    let other : place_in c.args.key ws < length ws → (get_or ws (place_in c.args.key ws) (0, 0)).0 ≡ c.args.key → ⊥ =
    elim c.else-at-len.branch [
      | else-at-len-via-then-at-len+else-deref-at w ↦ not_there c.args.key c.place_of-at.result ws w.deref.result.now a w.deref.ensures.0 w.if-deref-at.false
      | else-at-len-via-else-at-len w ↦ λ lt is. omega (arith, w.if-at-len.false, c.len.ensures.value, a, lt)
    ] in (
      omega arith,
      (
        omega (arith, c.place_of-at.ensures.within, ap length c.as_slice.ensures.value),
        elim c.requires.room [ inl few ↦ few | inr wrote ↦ absurd (let h = place_of_written None c.args.key ws (0, 0) c.requires.spelled wrote in other h.0 h.1) ],
      ),
    )

pub returns-then-deref-at : goal.returns-then-deref-at
returns-then-deref-at c =
    let ws = c.args.writes.now.items in
    let at = c.place_of-at.result in
    let a : at ≡ place_in c.args.key ws = c.place_of-at.ensures.place ∙ ap (place_in c.args.key) c.as_slice.ensures.value in
    let lt : place_in c.args.key ws < length ws = omega (arith, c.if-at-len.true, c.len.ensures.value, a) in
    let here : (get_or ws (place_in c.args.key ws) (0, 0)).0 ≡ c.args.key =
    sym (ap (λ (l : List (ℕ × ℕ)). (get_or l at (0, 0)).0) c.deref.ensures.0 ∙ ap (λ (n : ℕ). (get_or ws n (0, 0)).0) a) ∙ c.if-deref-at.true in
    let new : List (ℕ × ℕ) = set c.deref_mut.result.now at (c.args.key, c.args.value) in
    let long : length new ≡ length ws = length-set c.deref_mut.result.now at (c.args.key, c.args.value) ∙ ap length c.deref_mut.ensures.value in
    take_at new (drop (length new) ws) (length ws) long ∙ ap (λ (l : List (ℕ × ℕ)). set l at (c.args.key, c.args.value)) c.deref_mut.ensures.value
    ∙ ap (λ (n : ℕ). set ws n (c.args.key, c.args.value)) a ∙ write_over c.args.key c.args.value ws (0, 0) lt here

pub returns-else-at-len : goal.returns-else-at-len
returns-else-at-len c =
    let ws = c.args.writes.now.items in
    let a : c.place_of-at.result ≡ place_in c.args.key ws = c.place_of-at.ensures.place ∙ ap (place_in c.args.key) c.as_slice.ensures.value in
    let other : place_in c.args.key ws < length ws → (get_or ws (place_in c.args.key ws) (0, 0)).0 ≡ c.args.key → ⊥ =
    elim c.else-at-len.branch [
      | else-at-len-via-then-at-len+else-deref-at w ↦ not_there c.args.key c.place_of-at.result ws w.deref.result.now a w.deref.ensures.0 w.if-deref-at.false
      | else-at-len-via-else-at-len w ↦ λ lt is. omega (arith, w.if-at-len.false, c.len.ensures.value, a, lt)
    ] in
    c.insert.ensures.items ∙ ap (λ (n : ℕ). insert ws n (c.args.key, c.args.value)) a ∙ write_between c.args.key c.args.value ws (0, 0) other
