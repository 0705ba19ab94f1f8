use Rattle.std.proofs.Common.{◌∙◌, ap, sym, List, refl}
use Rattle.std.specs.Prelude.{position}
use Rattle.dtx_values.specs.TxIds.{number_of}
use Rattle.kv_resource.specs.Store.{KvDraft, Pair, is_draft_of}
use Rattle.kv_resource.proofs.Finding.{find_draft, is_draft_at, none_draft}
use Rattle.kv_resource.proofs.kv.Kv.drop_draft.Goals as goal

pub returns-in-Some : goal.returns-in-Some
returns-in-Some g c =
    let p : Pair = (number_of c.args.t, c.args.e.value) in
    let ds = c.self.inside.drafts.items in
    let at = is_draft_at p ds c.in-Some.i c.remove.result (sym (sym c.in-Some.is ∙ c.draft_at.ensures ∙ ap (λ (l : List KvDraft). position (is_draft_of p) l) c.deref.ensures.value)) c.remove.ensures.value in
    let left = c.remove.ensures.items ∙ sym (find_draft p ds c.in-Some.i c.remove.result at).2 in
    rw (← c.self.view_is, left) refl

pub returns-in_default : goal.returns-in_default
returns-in_default g c =
    let p : Pair = (number_of c.args.t, c.args.e.value) in
    let ds = c.self.inside.drafts.items in
    let none = (none_draft p ds 0 0 (sym (sym c.in_default.is ∙ c.draft_at.ensures ∙ ap (λ (l : List KvDraft). position (is_draft_of p) l) c.deref.ensures.value))).2 in
    rw (← c.self.view_is, none) refl
