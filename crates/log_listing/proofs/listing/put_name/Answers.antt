use Rattle.std.proofs.Common.{◌++◌, ◌∙◌, ℕ, List, ap, sym, refl}
use Rattle.std.proofs.lemmas.List.{append-nil}
use Rattle.dtx_model.specs.TraceText.{id_text}
use Rattle.log_listing.proofs.Names.{foreign_name}
use Rattle.log_listing.proofs.listing.put_name.Goals as goal

pub returns-in-None-clause-text : goal.returns-in-None-clause-text
returns-in-None-clause-text c =
    c.put_identifier.ensures.text ∙ ap (λ (x : List ℕ). id_text c.args.id ++ x) c.requires ∙ append-nil (id_text c.args.id) ∙ sym (foreign_name c.args.id (c.in-None.ensures.none refl))
