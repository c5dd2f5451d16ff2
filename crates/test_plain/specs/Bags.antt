-- Bags as the plain office keeps them: their transfer form.
use Rattle.std.specs.Prelude.{◌≡◌, ℕ, List, [], Result, Ok, Err}
use Rattle.bag_text.specs.TransferForm.{File, IsBag, set_text}
use Rattle.bag_text.specs.TransferReading.{set_of}
use Rattle.bag_text.specs.declared.set_fault.SetFault.{SetFault}

-- the files that were read, none where a text is refused
abbrev pub files_in : Result (List File) SetFault → List File
files_in (Ok files) = files
files_in (Err fault) = []

-- the text is the transfer form of this bag
pub record IsForm (text : List ℕ) (files : List File) : Type 0 where
  pub is_bag : IsBag files
  pub written : text ≡ set_text files
  pub read : set_of text ≡ Ok files
