-- What a cell keeps after it heard of a stop or an opening of the log.
use Rattle.std.proofs.Common.{ap, ◌≡◌, ℕ, Bool, true, false, List, refl, sym, subst, ◌∙◌, if◌then◌else◌}
use Rattle.std.specs.Prelude.{IsTrue}
use Rattle.dtx_values.specs.declared.call.Call.{Call}
use Rattle.dtx_values.specs.TxIds.{number_of}
use Rattle.dtx_values.specs.declared.tx_id.TxId.{TxId}
use Rattle.dtx_values.specs.declared.script.Line.{Line}
use Rattle.dtx_model.specs.Caused.{IsCallOf, IsIn, has_object, is_as_planned, plans_of}
use Rattle.dtx_model.specs.Grammar.{OfTransaction, is_made}
use Rattle.dtx_model.specs.Steps.{Restarts, Stops, after}
use Rattle.dtx_model.specs.Tied.{tied}
use Rattle.dtx_model.specs.Words.{always, has}
use Rattle.dtx_model.specs.World.{World}
use Rattle.script_calls.specs.Prefix.{IsPrefix}
use Rattle.script_calls.specs.SeenRow.{SeenRow}
use Rattle.tx_world.specs.State.{TxState}
use Rattle.tx_cells.specs.Cell.{IsKept, is_log_full}
use Rattle.tx_cells.proofs.Kept.{kept_step, kept_tied, turned_silent}

same_world : (s : List Line) (k : ℕ) (honest : Bool) (x y : TxState) (rows : List (SeenRow Call)) → IsKept s k honest x rows → y.transaction ≡ x.transaction → y.world ≡ x.world → IsKept s k honest y rows
same_world s k honest x y rows kept t w = record {
  script = kept.script;
  first = ap (λ (u : TxId). u.epoch) t ∙ kept.first;
  named = subst (λ (u : TxId). is_made s (OfTransaction (number_of u)) ≡ true) (sym t) kept.named;
  given = λ n a c i. subst (λ (u : TxId). IsCallOf s (number_of u) n a c) (sym t) (kept.given n a c (subst (λ (v : World). IsIn v.calls n a c) w i));
  in_order = subst (λ (u : TxId). IsPrefix s (number_of u) rows y.world.calls) (sym t) (subst (λ (v : World). IsPrefix s (number_of x.transaction) rows v.calls) (sym w) kept.in_order);
  planned = subst (λ (v : World). always (is_as_planned (plans_of s) (has_object s k)) v.past ≡ true) (sym w) kept.planned;
  sound = λ is. subst (λ (v : World). tied v.past ≡ true) (sym w) (kept.sound is);
  unfilled = λ is. subst (λ (v : World). has is_log_full v.past ≡ false) (sym w) (kept.unfilled is);
}

pub kept_stopped : (s : List Line) (k : ℕ) (honest : Bool) (x y : TxState) (rows : List (SeenRow Call)) (b : Bool) → IsKept s k honest x rows → y.transaction ≡ x.transaction → y.world ≡ (if b then after (number_of x.transaction) x.world Stops else x.world) → IsKept s k honest y rows
kept_stopped s k honest x y rows true kept t w = kept_step s k honest true x y rows Stops refl tt (λ _. refl) refl t (w ∙ turned_silent (number_of x.transaction) x.world Stops) kept
kept_stopped s k honest x y rows false kept t w = same_world s k honest x y rows kept t w

pub kept_opened : (s : List Line) (k : ℕ) (honest : Bool) (x y : TxState) (rows : List (SeenRow Call)) (found b : Bool) → IsKept s k honest x rows → (IsTrue honest → tied x.world.past ≡ true → tied y.world.past ≡ true) → y.transaction ≡ x.transaction → (b ≡ true → y.world ≡ after (number_of x.transaction) x.world (Restarts found)) → (b ≡ false → y ≡ x) → IsKept s k honest y rows
kept_opened s k honest x y rows found true kept still t w same = kept_tied s k honest true x y rows (Restarts found) refl tt (λ _. refl) still t (w refl ∙ turned_silent (number_of x.transaction) x.world (Restarts found)) kept
kept_opened s k honest x y rows found false kept still t w same = subst (λ (z : TxState). IsKept s k honest z rows) (sym (same refl)) kept
