-- How faults and versions are printed: the code, then the fields, each after a space.
use Rattle.std.specs.Prelude.{ℕ, List, ◌++◌, codes, decimal}
use Rattle.bag_text.specs.declared.path.PathFault.{PathFault}
use Rattle.bag_text.specs.declared.path.PathFault.TheVariants as paths
use Rattle.bag_text.specs.declared.declaration.DeclFault.{DeclFault}
use Rattle.bag_text.specs.declared.declaration.DeclFault.TheVariants as declarations
use Rattle.bag_text.specs.declared.listing.LineFault.{LineFault}
use Rattle.bag_text.specs.declared.listing.LineFault.TheVariants as manifests
use Rattle.bag_text.specs.declared.bag_info.InfoFault.{InfoFault}
use Rattle.bag_text.specs.declared.bag_info.InfoFault.TheVariants as infos
use Rattle.bag_text.specs.declared.set_fault.SetFault.{SetFault}
use Rattle.bag_text.specs.declared.set_fault.SetFault.TheVariants as sets

abbrev pub path_fault_text : PathFault → List ℕ
path_fault_text paths.Empty = codes "P1"
path_fault_text paths.TooLong = codes "P2"
path_fault_text paths.EmptySegment = codes "P3"
path_fault_text paths.DotSegment = codes "P4"
path_fault_text paths.Nul = codes "P5"

abbrev pub declaration_fault_text : DeclFault → List ℕ
declaration_fault_text declarations.NotUtf8 = codes "V1"
declaration_fault_text declarations.ByteOrderMark = codes "V2"
declaration_fault_text declarations.NotTwoLines = codes "V3"
declaration_fault_text declarations.BadVersionLine = codes "V4"
declaration_fault_text declarations.UnsupportedVersion = codes "V5"
declaration_fault_text declarations.BadEncodingLine = codes "V6"
declaration_fault_text declarations.UnsupportedEncoding = codes "V7"

abbrev pub line_fault_text : LineFault → List ℕ
line_fault_text manifests.NotUtf8 = codes "L1"
line_fault_text manifests.ByteOrderMark = codes "L2"
line_fault_text (manifests.BadChecksum line) = codes "L3 " ++ decimal line
line_fault_text (manifests.NoPath line) = codes "L4 " ++ decimal line
line_fault_text (manifests.BadPath line) = codes "L5 " ++ decimal line
line_fault_text (manifests.ListedTwice line) = codes "L6 " ++ decimal line
line_fault_text manifests.Memory = codes "L7"

abbrev pub info_fault_text : InfoFault → List ℕ
info_fault_text infos.NotUtf8 = codes "I1"
info_fault_text infos.ByteOrderMark = codes "I2"
info_fault_text (infos.NoColon line) = codes "I3 " ++ decimal line
info_fault_text (infos.EmptyLabel line) = codes "I4 " ++ decimal line
info_fault_text (infos.StrayContinuation line) = codes "I5 " ++ decimal line
info_fault_text infos.Memory = codes "I6"

abbrev pub set_fault_text : SetFault → List ℕ
set_fault_text sets.BadOpening = codes "S1"
set_fault_text (sets.BadEntry offset) = codes "S2 " ++ decimal offset
set_fault_text sets.Truncated = codes "S3"
set_fault_text (sets.OutOfOrder offset) = codes "S4 " ++ decimal offset
set_fault_text (sets.BadPath offset) = codes "S5 " ++ decimal offset
set_fault_text sets.TooManyFiles = codes "S6"
set_fault_text sets.TrailingBytes = codes "S7"
set_fault_text sets.PathClash = codes "S8"
set_fault_text sets.Memory = codes "S9"
