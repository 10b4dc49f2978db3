use Rattle.examples.proofs.Computed as computed
use Rattle.examples.proofs.Drafted as drafted
use Rattle.examples.proofs.Edited as edited
use Rattle.examples.proofs.Read as read
use Rattle.examples.proofs.example_file.Goals as goal

pub returns : goal.returns
returns c =
    record { bytes = c.bytes_of_m.ensures; worked = computed.worked; readings = read.readings; editings = edited.editings; draftings = drafted.draftings }
