-- The provenances among bytes.
use Rattle.std.specs.Prelude.{Bool, true, List, Option, Some, None}
use Rattle.std.specs.List.{list_all}
use Rattle.tb_perm.specs.declared.tag.Prov.{Prov}
use Rattle.tb_bytes.specs.declared.byte_val.ByteVal.{ByteVal}
use Rattle.tb_bytes.specs.Bytes.{prov_of}

-- the provenance, if there is one, passes a test
abbrev pub passes : (Prov → Bool) → Option Prov → Bool
passes test None = true
passes test (Some prov) = test prov

-- each provenance among the bytes passes a test
abbrev pub all_pass : (Prov → Bool) → List ByteVal → Bool
all_pass test bytes = list_all (λ byte. passes test (prov_of byte)) bytes
