-- What is pending in a world may come there.
use Rattle.std.proofs.Common.{Bool, true, not, ◌≡◌, List, [], ◌∷◌, refl, ap, map, false, if◌then◌else◌, ◌++◌, filter, ℕ, Some, sym, subst}
use Rattle.std.specs.List.{flat_map}
use Rattle.dtx_values.specs.declared.call.Call.{Call}
use Rattle.dtx_values.specs.declared.end.End.{End}
use Rattle.dtx_values.specs.declared.entry.Entry.{Entry}
use Rattle.dtx_values.specs.declared.message.Conn.{Conn}
use Rattle.dtx_values.specs.declared.message.Dir.{Dir}
use Rattle.dtx_values.specs.declared.message.Dir.TheVariants.{Up, Down}
use Rattle.dtx_values.specs.declared.note.Note.{Note}
use Rattle.dtx_values.specs.declared.number.ActorNo.{ActorNo}
use Rattle.dtx_values.specs.declared.number.EnlNo.{EnlNo}
use Rattle.dtx_model.specs.Words.{each, kth}
use Rattle.dtx_model.specs.Outcome.{is_empty}
use Rattle.dtx_model.specs.Plans.{plan_of}
use Rattle.dtx_model.specs.Acts.{act_entries}
use Rattle.dtx_model.specs.Replies.{all_due, is_answered}
use Rattle.dtx_model.specs.World.{World, half, has_left, core}
use Rattle.dtx_model.specs.Steps.{StepName, ReplyOf, LocalAct, CoordinatorAct, Delivery, local_if, delivery_if, deliveries_on, core_act, local_pending, pending, replies_due, Step}
use Rattle.dtx_model.specs.Caused.{IsNamed, MayCome}
use Rattle.dtx_model.proofs.Bools.{and_both, not_true}
use Rattle.history_table.proofs.Scans.{each-append, each-kth}

-- What is pending may come: the local act has entries, and something is left to deliver.
is_there : World → StepName → Bool
is_there w (ReplyOf e) = true
is_there w LocalAct = not (is_empty (act_entries (half w)))
is_there w CoordinatorAct = true
is_there w (Delivery c d) = has_left c d w.past

acts_there : (w : World) (xs : List Entry) → act_entries (half w) ≡ xs → each (is_there w) (local_if xs) ≡ true
unfolding is_there
acts_there w [] e = refl
acts_there w (x ∷ xs) e = and_both (not (is_empty (act_entries (half w)))) true (ap (λ ys. not (is_empty ys)) e) refl

replies_there : {A : Type 0} (w : World) (f : A → StepName) → ((x : A) → is_there w (f x) ≡ true) → (xs : List A) → each (is_there w) (map f xs) ≡ true
replies_there w f g [] = refl
replies_there w f g (x ∷ xs) = and_both (is_there w (f x)) (each (is_there w) (map f xs)) (g x) (replies_there w f g xs)

one_there : (w : World) (c : Conn) (d : Dir) (b : Bool) → has_left c d w.past ≡ b → each (is_there w) (delivery_if b c d) ≡ true
unfolding is_there
one_there w c d true e = and_both (has_left c d w.past) true e refl
one_there w c d false e = refl

deliveries_there : (w : World) (ns : List End) → each (is_there w) (flat_map (deliveries_on w.past) ns) ≡ true
deliveries_there w [] = refl
deliveries_there w (n ∷ ns) =
    each-append (is_there w) (deliveries_on w.past n) (flat_map (deliveries_on w.past) ns)
    (each-append (is_there w) (delivery_if (has_left n.connection Up w.past) n.connection Up) (delivery_if (has_left n.connection Down w.past) n.connection Down)
    (one_there w n.connection Up (has_left n.connection Up w.past) refl) (one_there w n.connection Down (has_left n.connection Down w.past) refl))
    (deliveries_there w ns)

core_there : (w : World) (b : Bool) → each (is_there w) (if b then CoordinatorAct ∷ [] else []) ≡ true
unfolding is_there
core_there w true = refl
core_there w false = refl

all_there : (w : World) → each (is_there w) (pending w) ≡ true
unfolding pending local_pending is_there
all_there w =
    each-append (is_there w) (local_pending (plan_of w.calls) (half w) ++ core_act (core w)) (flat_map (deliveries_on w.past) (half w).seen.ends)
    (each-append (is_there w) (local_pending (plan_of w.calls) (half w)) (core_act (core w))
    (each-append (is_there w) (replies_due (plan_of w.calls) (half w)) (local_if (act_entries (half w)))
    (replies_there w (λ (x : EnlNo × Note). ReplyOf x.0) (λ x. refl) (filter (is_answered (plan_of w.calls)) (all_due (half w).seen))) (acts_there w (act_entries (half w)) refl))
    (core_there w _))
    (deliveries_there w (half w).seen.ends)

-- so a step that is pending may come
pub pending_comes : (G : ℕ → ActorNo → Call → Type 0) (t : ℕ) (w : World) (k : ℕ) (n : StepName) (m : Step) → kth (pending w) k ≡ Some n → IsNamed w n m → MayCome G t w m
unfolding is_there
pending_comes G t w k n m e named = by n (each-kth (is_there w) (pending w) k n (all_there w) e) named
  where
    by : (n : StepName) → is_there w n ≡ true → IsNamed w n m → MayCome G t w m
    by (ReplyOf e) p (r, note, due, fit, same) = subst (λ m. MayCome G t w m) (sym same) (note, due, fit)
    by LocalAct p same = subst (λ m. MayCome G t w m) (sym same) (not_true (is_empty (act_entries (half w))) p)
    by CoordinatorAct p (a, may, same) = subst (λ m. MayCome G t w m) (sym same) may
    by (Delivery c d) p same = subst (λ m. MayCome G t w m) (sym same) p
