-- Votes.
use Rattle.std.specs.Prelude.{Bool, true, false, Option, Some, None}
use Rattle.dtx_values.specs.declared.words.Vote.{Vote}
use Rattle.dtx_values.specs.declared.words.Vote.TheVariants.{Yes, No}

-- yes or done
abbrev pub is_good : Vote → Bool
is_good No = false
is_good _ = true

abbrev pub is_no : Vote → Bool
is_no No = true
is_no _ = false

-- it voted yes or done
abbrev pub voted_well : Option Vote → Bool
voted_well (Some v) = is_good v
voted_well None = false

-- it voted no
abbrev pub is_no_vote : Option Vote → Bool
is_no_vote (Some v) = is_no v
is_no_vote None = false

-- who voted so still hears the outcome: it voted neither no nor done
abbrev pub still_hears : Option Vote → Bool
still_hears None = true
still_hears (Some Yes) = true
still_hears (Some _) = false
