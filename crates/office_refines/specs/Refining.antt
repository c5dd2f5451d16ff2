-- What the rows of a history come to, and what the history says.
use Rattle.std.specs.Prelude.{◌≡◌, ℕ, ℤ, pos, List, Option, Some}
use Rattle.jiff.specs.Types.{Date}
use Rattle.bag_text.specs.TransferForm.{content_at}
use Rattle.office_core.specs.declared.refusal.Refusal.{Refusal}
use Rattle.office_core.specs.declared.request.Request.{Request}
use Rattle.office_core.specs.declared.request.Request.TheVariants.{DownloadBag, DownloadFile}
use Rattle.office_core.specs.declared.rule.Decision.{Decision}
use Rattle.office_rows.specs.Rows.{RuleRow, Tables}
use Rattle.office_history.specs.Histories.{Deposit, History, deposit_numbered}
use Rattle.office_history.specs.Pictures.{effect_number}
use Rattle.office_history.specs.Refusals.{refusal}
use Rattle.office_by_rows.specs.Answers.{content_stored, stored_files}

-- what speaks against a request; that there is no file at a path is answered where nothing speaks against the download of its bag
abbrev pub refusal_before : History → Date → List ℕ → Request → Option Refusal
refusal_before h day caller (DownloadFile n path) = refusal h day caller (DownloadBag n)
refusal_before h day caller request = refusal h day caller request

-- what a rule's row, and a decision, say of the rule: its place and its effect
abbrev pub place_and_effect : RuleRow → ℤ × ℤ
place_and_effect row = (row.place, row.effect)

abbrev pub rule_and_effect : Decision → ℤ × ℤ
rule_and_effect decision = (pos decision.rule, effect_number decision.effect)

-- the files that the tables have of the deposit are those of its bag, and so is what is there at each path
pub record HasBagOf (h : History) (n : ℕ) (t : Tables) : Type 0 where
  pub found : Date × Deposit
  pub there : deposit_numbered h n ≡ Some found
  pub files : stored_files n t ≡ found.1.bag
  pub contents : (path : List ℕ) → content_stored n path t ≡ content_at found.1.bag path
