-- How many pages of a database file are kept in memory.
use Rattle.std.specs.Prelude.{ℕ, ◌+◌, ◌*◌, ◌/◌, min, List, nat_eq, nat_lt, if◌then◌else◌, slice_index}

-- the field for the page size in the header of a file: its bytes 16 and 17, the greater first (SQLite's Database File Format, section 1.3.2)
abbrev pub page_size_field : List ℕ → ℕ
page_size_field header = slice_index header 16 * 256 + slice_index header 17

-- the page size in bytes that the field means: 1 means 65,536. One below 512 means none, and counts as that of the files that are made here.
abbrev pub page_size : ℕ → ℕ
page_size field = if nat_eq field 1 then 65536 else (if nat_lt field 512 then 4096 else field)

-- how many pages of that size are kept of a file of this length: as many as it has, and some for what is written after, up to 128 MiB of them
abbrev pub cached_pages : ℕ → ℕ → ℕ
cached_pages bytes size = min (bytes + 8192000) 134217728 / size
