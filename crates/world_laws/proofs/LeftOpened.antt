-- Where something is left to deliver, the connection is among those that were opened.
use Rattle.std.proofs.Common.{◌≡◌, ℕ, Bool, true, false, ◌&&◌, ◌||◌, not, List, [], ◌∷◌, take, None, if◌then◌else◌, refl, subst, ◌∙◌}
use Rattle.dtx_values.specs.declared.entry.Entry.{Entry}
use Rattle.dtx_values.specs.declared.entry.Entry.TheVariants.{Cut, Got, Sent, Stopped}
use Rattle.dtx_values.specs.declared.message.Conn.{Conn}
use Rattle.dtx_values.specs.declared.message.Dir.{Dir}
use Rattle.dtx_values.specs.declared.message.Dir.TheVariants.{Up, Down}
use Rattle.dtx_values.specs.declared.message.Message.{Message}
use Rattle.dtx_values.specs.Ends.{same_connection, same_direction}
use Rattle.dtx_values.specs.Lines.{has_line, is_opening}
use Rattle.dtx_model.specs.Coordinated.{without}
use Rattle.dtx_model.specs.Wires.{in_transit, kept, lost_since, opens}
use Rattle.dtx_model.specs.Words.{has}
use Rattle.dtx_model.specs.World.{has_left}
use Rattle.dtx_model.proofs.Bools.{not_both, or_false, or_first, or_second}
use Rattle.dtx_model.proofs.Connections.{same_is}
use Rattle.world_laws.specs.Left.{opened}
use Rattle.history_table.proofs.Crossed.{none_taken}

-- nothing is left there, and it wasn't opened
record IsBare (c : Conn) (d : Dir) (h : List Entry) : Type 0 where
  transit : in_transit c d h ≡ []
  lost : lost_since c h ≡ None

without_other : (c e : Conn) (cs : List Conn) → same_connection c e ≡ false → has (same_connection c) (without e cs) ≡ false → has (same_connection c) cs ≡ false
without_other c e [] s n = refl
without_other c e (x ∷ cs) s n = by (same_connection e x) refl n (without_other c e cs s)
  where
    by : (b : Bool) → same_connection e x ≡ b → has (same_connection c) (if not b then x ∷ without e cs else without e cs) ≡ false
        → (has (same_connection c) (without e cs) ≡ false → has (same_connection c) cs ≡ false) → (same_connection c x || has (same_connection c) cs) ≡ false
    by true q n i = or_false (same_connection c x) (has (same_connection c) cs) (subst (λ (y : Conn). same_connection c y ≡ false) (same_is e x q) s) (i n)
    by false q n i =
        or_false (same_connection c x) (has (same_connection c) cs) (or_first (same_connection c x) (has (same_connection c) (without e cs)) n)
        (i (or_second (same_connection c x) (has (same_connection c) (without e cs)) n))

unsent : (c e : Conn) (d r : Dir) (m : Message) (h : List Entry) → opens c (Sent e r m) ≡ false → IsBare c d h → IsBare c d (Sent e r m ∷ h)
unsent c e d r m h o i = record {
  transit = rw (o, i.transit, i.lost) (by (same_connection c e && same_direction d r));
  lost = rw (i.lost, o) refl;
}
  where
    none : List Message
    none = []

    by : (b : Bool) → (if b then none else none) ≡ none
    by true = refl
    by false = refl

ungot : (c e : Conn) (d r : Dir) (m : Message) (h : List Entry) → IsBare c d h → IsBare c d (Got e r m ∷ h)
ungot c e d r m h i = record { transit = rw i.transit (by (same_connection c e) (has_line e r m) (same_direction d r)); lost = rw i.lost refl }
  where
    none : List Message
    none = []

    by : (s l t : Bool) → (if not s then none else if not l then none else if t then none else none) ≡ none
    by false l t = refl
    by true false t = refl
    by true true true = refl
    by true true false = refl

uncut : (c e : Conn) (d : Dir) (u n : ℕ) (h : List Entry) → IsBare c d h → IsBare c d (Cut e u n ∷ h)
uncut c e d u n h i = record { transit = by (same_connection c e) (kept d u n) (in_transit c d h) i.transit; lost = rw i.lost refl }
  where
    by : (s : Bool) (k : ℕ) (ms : List Message) → ms ≡ [] → (if s then take k ms else ms) ≡ []
    by true k ms e = none_taken k ms e
    by false k ms e = e

unstopped : (c : Conn) (d : Dir) (h : List Entry) → IsBare c d h → IsBare c d (Stopped ∷ h)
unstopped c Up h i = record { transit = refl; lost = rw i.lost refl }
unstopped c Down h i = record { transit = i.transit; lost = rw i.lost refl }

quiet : (c : Conn) (d : Dir) (x : Entry) (h : List Entry) → in_transit c d (x ∷ h) ≡ in_transit c d h → opens c x ≡ false → IsBare c d h → IsBare c d (x ∷ h)
quiet c d x h t o i = record { transit = t ∙ i.transit; lost = rw (i.lost, o) refl }

bare : (c : Conn) (d : Dir) (h : List Entry) → has (same_connection c) (opened h) ≡ false → IsBare c d h
bare c d [] n = record { transit = refl; lost = refl }
bare c d (Sent e Up m ∷ h) n = by (is_opening e m) refl n (bare c d h)
  where
    by : (b : Bool) → is_opening e m ≡ b → has (same_connection c) (if b then e ∷ without e (opened h) else opened h) ≡ false
        → (has (same_connection c) (opened h) ≡ false → IsBare c d h) → IsBare c d (Sent e Up m ∷ h)
    by true o n i =
        let s = or_first (same_connection c e) (has (same_connection c) (without e (opened h))) n in
        unsent c e d Up m h (rw s refl) (i (without_other c e (opened h) s (or_second (same_connection c e) (has (same_connection c) (without e (opened h))) n)))
    by false o n i = unsent c e d Up m h (rw o (and_no (same_connection c e))) (i n)
      where
        and_no : (b : Bool) → (b && false) ≡ false
        and_no true = refl
        and_no false = refl
bare c d (Sent e Down m ∷ h) n = unsent c e d Down m h refl (bare c d h n)
bare c d (Got e r m ∷ h) n = ungot c e d r m h (bare c d h n)
bare c d (Cut e u w ∷ h) n = uncut c e d u w h (bare c d h n)
bare c d (Stopped ∷ h) n = unstopped c d h (bare c d h n)
bare c d (x ∷ h) n = quiet c d x h refl refl (bare c d h n)

-- where something is left to deliver, the connection was opened
pub left_opened : (c : Conn) (d : Dir) (h : List Entry) → has_left c d h ≡ true → has (same_connection c) (opened h) ≡ true
left_opened c d h k = by (has (same_connection c) (opened h)) refl
  where
    left : IsBare c d h → has_left c d h ≡ false
    left i = rw (i.transit, i.lost) refl

    by : (b : Bool) → has (same_connection c) (opened h) ≡ b → b ≡ true
    by true e = refl
    by false e = absurd (not_both (has_left c d h) k (left (bare c d h e)))
