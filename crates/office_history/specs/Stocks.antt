-- What the office keeps: the contents of the files of the kept deposits, each once.
use Rattle.std.specs.Prelude.{◌≡◌, ℕ, List, [], Some, None, Contains, length, map, sum}
use Rattle.std.specs.List.{flat_map}
use Rattle.std.specs.Option.{option_map_or}
use Rattle.jiff.specs.Types.{Date}
use Rattle.bag_text.specs.TransferForm.{File}
use Rattle.office_history.specs.Histories.{History, Deposit, deposit_numbered, destruction_day, kept_numbers}
use Rattle.office_history.specs.Lists.{in_first_places}

-- the files of a deposit, none where there is no such deposit
abbrev pub files_of : History → ℕ → List File
files_of h n = option_map_or (λ found. found.1.bag) (deposit_numbered h n) []

-- the byte strings at some path of some kept bag
abbrev pub contents : History → List (List ℕ)
contents h = in_first_places (map (λ file. file.content) (flat_map (files_of h) (kept_numbers h)))

-- the content of a file in the bag of a kept deposit
pub record IsKept (h : History) (content : List ℕ) : Type 0 where
  pub number : ℕ
  pub found : Date × Deposit
  pub file : File
  pub there : deposit_numbered h number ≡ Some found
  pub kept : destruction_day h number ≡ None
  pub has_file : Contains found.1.bag file
  pub has_content : file.content ≡ content

pub record Stock : Type 0 where
  -- how many different contents
  pub contents : ℕ
  -- how many bytes they have together
  pub bytes : ℕ

abbrev pub stock : History → Stock
stock h = record { contents = length (contents h); bytes = sum (map length (contents h)) }
