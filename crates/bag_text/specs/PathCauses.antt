-- Why a line of a manifest lists no good path (L5): seven causes, and the first of them that applies.
use Rattle.std.specs.Prelude.{ℕ, Bool, not, List, [], ◌∷◌, length, Option, bytes_eq, codes, find, nat_lt, ◌==◌}
use Rattle.std.specs.List.{list_any}
use Rattle.std.specs.Str.{is_utf8}
use Rattle.bag_text.specs.declared.declaration.Version.{Version}
use Rattle.bag_text.specs.declared.causes.PathCause.{PathCause}
use Rattle.bag_text.specs.declared.causes.PathCause.TheVariants.{Starred, NotUtf8, TooLong, EmptySegment, DotSegment, DotDotSegment, Nul}
use Rattle.bag_text.specs.Text.{begins_with}
use Rattle.bag_text.specs.Paths.{max_path, segments}
use Rattle.bag_text.specs.Manifest.{decode}

-- whether a cause applies: `*` at the beginning of the spelled path, and the others in the path that it spells
abbrev pub stands_for : List ℕ → List ℕ → PathCause → Bool
stands_for spelled path Starred = begins_with 42 spelled
stands_for spelled path NotUtf8 = not (is_utf8 path)
stands_for spelled path TooLong = nat_lt max_path (length path)
stands_for spelled path EmptySegment = list_any (λ s. length s == 0) (segments path)
stands_for spelled path DotSegment = list_any (λ s. bytes_eq s (codes ".")) (segments path)
stands_for spelled path DotDotSegment = list_any (λ s. bytes_eq s (codes "..")) (segments path)
stands_for spelled path Nul = list_any (λ b. b == 0) path

-- the causes in the path itself, in their order
abbrev pub own_causes : List PathCause
own_causes = NotUtf8 ∷ TooLong ∷ EmptySegment ∷ DotSegment ∷ DotDotSegment ∷ Nul ∷ []

-- the first cause that applies
abbrev pub path_cause : Version → List ℕ → Option PathCause
path_cause version spelled = find (stands_for spelled (decode version spelled)) (Starred ∷ own_causes)
