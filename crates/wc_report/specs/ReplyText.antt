-- The printed text of a reply.
use Rattle.std.specs.Prelude.{ℕ, List, ◌++◌, length, codes, decimal, flat_map}
use Rattle.wc_base.specs.FaultTexts.{fault_text}
use Rattle.wc_base.specs.declared.troubles.Trouble.{Trouble}
use Rattle.wc_base.specs.declared.troubles.Trouble.TheVariants.{Fault as Refused, Memory}
use Rattle.wc_f4.specs.FactText.{fact_text}
use Rattle.wc_model.specs.declared.entries.Asked.{Asked}
use Rattle.wc_model.specs.declared.entries.Listing.{Listing}
use Rattle.wc_model.specs.declared.flow_facts.Fact.{Fact}
use Rattle.wc_model.specs.declared.machine.Hardware.{Hardware}
use Rattle.wc_model.specs.declared.values.Outcome.{Outcome}
use Rattle.wc_model.specs.declared.values.Outcome.TheVariants as outcome
use Rattle.wc_report.specs.ReportText.{hardware_words}
use Rattle.wc_report.specs.declared.replies.Reply.{Reply}
use Rattle.wc_report.specs.declared.replies.Reply.TheVariants as reply

abbrev pub outcome_text : List ℕ → ℕ → Outcome → List ℕ
outcome_text name at (outcome.Bound cycles) =
    codes "bound " ++ name ++ codes " " ++ decimal cycles ++ codes " at " ++ decimal at ++ codes "\n"
outcome_text name at (outcome.Fault fault) = codes "refused " ++ fault_text fault ++ codes " at " ++ decimal at ++ codes "\n"
outcome_text name at outcome.Memory = codes "memory\n"

-- the answer to what was asked for
abbrev pub asked_text : List ℕ → Asked → List ℕ
asked_text name asked = outcome_text name asked.at asked.outcome

-- a fact behind its number
abbrev pub numbered_text : ℕ × Fact → List ℕ
numbered_text f = decimal f.0 ++ codes " " ++ fact_text f.1 ++ codes "\n"

abbrev pub timing_text : Hardware → List ℕ
timing_text hardware = hardware_words hardware ++ codes "\n"

-- how many facts are live, each of them, and the hardware
abbrev pub counts_text : ℕ → ℕ → List ℕ
counts_text facts at = codes "list " ++ decimal facts ++ codes " at " ++ decimal at ++ codes "\n"

abbrev pub listed_text : ℕ → List (ℕ × Fact) → Hardware → List ℕ
listed_text at facts hardware = counts_text (length facts) at ++ flat_map numbered_text facts ++ timing_text hardware

abbrev pub listing_text : Listing → List ℕ
listing_text l = listed_text l.at l.facts l.hardware

abbrev pub reply_text : Reply → List ℕ
reply_text (reply.Edit count) = codes "edit " ++ decimal count ++ codes "\n"
reply_text (reply.Bound name asked) = asked_text name asked
reply_text (reply.Refused fault) = codes "refused " ++ fault_text fault ++ codes "\n"
reply_text (reply.Listing listing) = listing_text listing
reply_text reply.Memory = codes "memory\n"

-- the reply to a line that has no command
abbrev pub reply_to_trouble : Trouble → Reply
reply_to_trouble (Refused fault) = reply.Refused fault
reply_to_trouble (Memory _) = reply.Memory
