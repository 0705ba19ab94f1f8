-- What the coordinator writes after a message, an end, or its act are its messages alone.
use Rattle.std.proofs.Common.{ℕ, refl, [], ◌∷◌, ◌≡◌, true}
use Rattle.dtx_values.specs.declared.entry.Entry.TheVariants.{Sent}
use Rattle.dtx_values.specs.declared.message.Conn.{Conn}
use Rattle.dtx_values.specs.declared.message.Dir.TheVariants.{Down}
use Rattle.dtx_values.specs.declared.message.Message.{Message}
use Rattle.dtx_model.specs.Coordinated.{Coordinated, abort_sends, commit_sends, core_down, core_got}
use Rattle.world_laws.specs.Course.{is_far}
use Rattle.dtx_model.proofs.Writes.{Each, e_one, OfLists, each_lists, is_outcome_message}
use Rattle.dtx_model.proofs.Blocks.{of_abort_sends, of_commit_sends, of_core_got, of_core_down}
use Rattle.dtx_values.specs.Lines.{has_line}

far : OfLists (λ es. Each is_far es)
far = each_lists is_far

far_sent : (c : Conn) (m : Message) → has_line c Down m ≡ true → is_outcome_message m ≡ true → Each is_far (Sent c Down m ∷ [])
far_sent c m h o = e_one (Sent c Down m) refl

pub far_abort : (k : Coordinated) → Each is_far (abort_sends k)
far_abort k = of_abort_sends far k far_sent

pub far_commit : (k : Coordinated) → Each is_far (commit_sends k)
far_commit k = of_commit_sends far k far_sent

pub far_core_got : (id : ℕ) (k : Coordinated) (c : Conn) (m : Message) → Each is_far (core_got id k c m)
far_core_got id k c m = of_core_got far id k c m (λ d n h a. e_one (Sent d Down n) refl)

pub far_core_down : (k : Coordinated) (c : Conn) → Each is_far (core_down k c)
far_core_down k c = of_core_down far k c far_sent
