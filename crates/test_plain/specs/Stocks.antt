-- What the plain office keeps, as the definitions speak of it.
use Rattle.std.specs.Prelude.{ℕ, List, map}
use Rattle.bag_text.specs.TransferForm.{File}
use Rattle.office_history.specs.Stocks as stocks
use Rattle.test_plain.specs.declared.stocks.Stock.{Stock}

abbrev pub contents_of : List File → List (List ℕ)
contents_of files = map (λ file. file.content) files

abbrev pub stock_seen : Stock → stocks.Stock
stock_seen found = record { contents = found.contents; bytes = found.bytes }
